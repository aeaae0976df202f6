-- Where bytes occur in a text, and what a text without them shows.
use Rattle.city_decimals.proofs.Prelude.{◌≡◌, ℕ, ◌+◌, ◌<◌, ◌≤◌, List, ◌∷◌, ◌++◌, Bool, true, false, cond, refl, sym, ap}
use Rattle.city_decimals.proofs.Prelude.{◌∙◌, arith, append_assoc, true≢false, codes, quoted, subst, ◌&&◌}
use Rattle.city_decimals.proofs.Prelude.{bytes_eq-Decides, Option, Some, None, get_or, length, take, drop}
use Rattle.city_decimals.proofs.Prelude.{drop-append-le, take_all}
use Rattle.city_decimals.proofs.Prelude.{length-drop, ap₂, ◌-◌}
use Rattle.city_decimals.proofs.Prelude.{Json, null, boolean, number, string, array, object, fronted, only, is_tag, tag}
use Rattle.city_decimals.proofs.Prelude.{is_attributes, is_single, has_shield, is_transform, out_of_form, value_text}
use Rattle.city_decimals.proofs.Prelude.{items_text}
use Rattle.std.proofs.Common.{length-append, ◌⊎◌, inl, inr}
use Rattle.std.proofs.lemmas.Bool.{cases_lt, cases_eq}
use Rattle.std.proofs.lemmas.List.{take-append-drop}
use lib.Seq.{take_at, drop_at}
use Rattle.memchr.specs.Find.{OccursAt, FindsNeedle, occurs_at}
use Rattle.memchr.proofs.lemmas.MatchLemmas.{OccursAt-from_part, OccursAt-true}
use Rattle.json.specs.Print.{escape_byte}
use Rattle.city_decimals.specs.internal.Needles.{Lacks, IsOnly, tag_name, attributes_array}

-- ---- a search

occurs : (a needle b : List ℕ) → OccursAt (a ++ (needle ++ b)) needle (length a)
occurs a needle b = OccursAt-from_part (a ++ (needle ++ b)) needle (length a)
    (omega (arith, length-append a (needle ++ b), length-append needle b))
    (ap (take (length needle)) (drop_at a (needle ++ b) (length a) refl) ∙ take_at needle b (length needle) refl)

pub occurs_in : (text a needle b : List ℕ) → text ≡ a ++ (needle ++ b) → OccursAt text needle (length a)
occurs_in text a needle b e = subst (λ t. OccursAt t needle (length a)) (sym e) (occurs a needle b)

-- a part of a text without the bytes is without them
pub lacks_front : (needle t rest : List ℕ) → Lacks needle (t ++ rest) → Lacks needle t
lacks_front needle t rest l a b f =
    l a (b ++ rest) (ap (λ w. w ++ rest) f ∙ append_assoc a (needle ++ b) rest ∙ ap (λ w. a ++ w)
    (append_assoc needle b rest))

pub lacks_found : (text needle : List ℕ) (r : Option ℕ) → FindsNeedle text needle 0 r → r ≡ None → Lacks needle text
lacks_found text needle r found none a b e =
    subst (FindsNeedle text needle 0) none found (length a) (omega arith) (omega (
      arith,
      ap length e,
      length-append a
          (needle ++ b),
    )) (occurs_in text a needle b e)

-- nothing stands before the first place
pub lacks_before : (text needle : List ℕ) (at : ℕ) → FindsNeedle text needle 0 (Some at) → 0 < length needle
    → (front behind : List ℕ)
    → text ≡ front ++ behind → length front ≤ at → Lacks needle front
lacks_before text needle at found some front behind e small a b f =
    let whole : text ≡ a ++ (needle ++ (b ++ behind)) =
    e ∙ ap (λ t. t ++ behind) f ∙ append_assoc a (needle ++ b) behind
    ∙ ap (λ t. a ++ t) (append_assoc needle b behind) in
    let long : length a < at
    = omega (arith, ap length f, length-append a (needle ++ b), length-append needle b, small, some) in
    found.0.before (length a) (omega arith) long (occurs_in text a needle (b ++ behind) whole)

pub only_found : (text needle : List ℕ) (at : ℕ) → FindsNeedle text needle 0 (Some at)
    → Lacks needle (drop (at + 1) text) → IsOnly needle text at
only_found text needle at found after a b e = compare (cases_lt (length a) at)
  where
    later : at < length a → ⊥
    later more = after (drop (at + 1) a) b (ap (drop (at + 1)) e ∙ drop-append-le (at + 1) a (needle ++ b)
        (omega (arith, more)))

    compare : (length a < at) ⊎ (at ≤ length a) → length a ≡ at
    compare (inl less) = absurd (found.0.before (length a) (omega arith) less (occurs_in text a needle b e))
    compare (inr more) = elim (cases_eq (length a) at) [
      | inl same ↦ same
      | inr other ↦ absurd (later (omega (arith, more, other)))
    ]

-- what stands behind the bytes that a text begins with
pub begins_so : (text bytes behind : List ℕ) (n m : ℕ) → n ≡ length bytes → take n text ≡ bytes → n ≤ length text
    → m ≡ length text - n → take m (drop n text) ≡ behind → text ≡ bytes ++ behind
begins_so text bytes behind n m count front within left e =
    sym (take-append-drop n text)
    ∙ ap₂ (λ a b. a ++ b) front (sym (take_all m (drop n text) (omega (arith, length-drop n text, left))) ∙ e)

-- ---- what a text shows

pub tag_quoted : (rest : List ℕ) → quoted tag ++ 58 ∷ rest ≡ tag_name ++ rest
unfolding escape_byte
tag_quoted rest = refl

attributes_quoted : (rest : List ℕ) → quoted (codes "attributes") ++ 58 ∷ 91 ∷ rest ≡ attributes_array ++ rest
unfolding escape_byte
attributes_quoted rest = refl

array_here : (j : Json) → is_single j ≡ true → (rest : List ℕ) × (value_text j ≡ 91 ∷ rest)
array_here null h = absurd (true≢false (sym h))
array_here (boolean b) h = absurd (true≢false (sym h))
array_here (number s) h = absurd (true≢false (sym h))
array_here (string s) h = absurd (true≢false (sym h))
array_here (array js) h = (items_text false js, refl)
array_here (object ms) h = absurd (true≢false (sym h))

pub no_shield : (before k : List ℕ) (j : Json) (rest : List ℕ) → is_tag k ≡ false
    → Lacks attributes_array (before ++ (quoted k ++ 58 ∷ (value_text j ++ rest))) → has_shield k j ≡ false
no_shield before k j rest none h = at (is_attributes k) (is_single j) refl refl
  where
    at : (b c : Bool) → is_attributes k ≡ b → is_single j ≡ c → has_shield k j ≡ false
    at false c e f = grind (arith, none)
    at true false e f = grind (arith, none)
    at true true e f =
        let same : k ≡ codes "attributes" = (bytes_eq-Decides k (codes "attributes")).0 e in
        let array = array_here j f in
        absurd (h before (array.0 ++ rest) (ap (λ n. before ++ (quoted n ++ 58 ∷ (value_text j ++ rest))) same
        ∙ ap (λ t. before ++ (quoted (codes "attributes") ++ 58 ∷ (t ++ rest))) array.1
        ∙ ap (λ t. before ++ t) (attributes_quoted (array.0 ++ rest))))

pub form_left : (top : Bool) (k : List ℕ) (j r : Json) → fronted r ≡ r → has_shield k r ≡ false
    → out_of_form top k j r ≡ r
form_left top k j r front none = at (top && is_transform k j)
  where
    at : (b : Bool) → cond b (fronted r) (cond (has_shield k r) (only r) r) ≡ r
    at true = front
    at false = rw none refl

-- ---- whether bytes are next

pub no_other : (text bytes : List ℕ) (at : ℕ) → at < length bytes → (get_or text at 0 ≡ get_or bytes at 0 → ⊥)
    → occurs_at text bytes 0 ≡ false
no_other text bytes at within other = by (occurs_at text bytes 0) refl
  where
    by : (b : Bool) → occurs_at text bytes 0 ≡ b → occurs_at text bytes 0 ≡ false
    by false e = e
    by true e =
        let zero : 0 + at ≡ at = omega arith in
        absurd (other (subst (λ n. get_or text n 0 ≡ get_or bytes at 0) zero
        ((OccursAt-true text bytes 0 e).reads at within)))
