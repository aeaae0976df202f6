-- What a search for encoded numbers passes in the text of a value, and what is decoded of it.
use Rattle.city_decimals.proofs.Prelude.{◌≡◌, ◌≢◌, ℕ, List, [], ◌∷◌, ◌++◌, Bool, true, false, refl, sym, ap, ap₂, ◌∙◌}
use Rattle.city_decimals.proofs.Prelude.{arith}
use Rattle.city_decimals.proofs.Prelude.{append_assoc, subst, get_or, escape, quoted, IsNumber, Some_inj}
use Rattle.city_decimals.proofs.Prelude.{bytes_eq-Decides}
use Rattle.city_decimals.proofs.Prelude.{Json, null, boolean, number, string, array, object, Items, no_items, item}
use Rattle.city_decimals.proofs.Prelude.{Members, no_members, member, HasNumbers, ItemsHaveNumbers, MembersHaveNumbers}
use Rattle.city_decimals.proofs.Prelude.{decoded, decoded_items, decoded_members, fronted, is_tag, tag}
use Rattle.city_decimals.proofs.Prelude.{out_of_form, value_text, items_text, members_text, comma_if, IsUntagged}
use Rattle.city_decimals.proofs.Prelude.{number_in, number_or}
use Rattle.std.proofs.Common.{inl, inr, ◌⊎◌}
use Rattle.std.proofs.lemmas.Bool.{cases_eq}
use Rattle.json.specs.Print.{escape_byte}
use Rattle.json.specs.Text.{content, plain}
use Rattle.json.proofs.Printed.Strings.{content-escape}
use Rattle.city_decimals.proofs.Braces.{braces, first_is_none, later_are_none, byte_free, no_quote, number_free}
use Rattle.city_decimals.proofs.Bare.{number_begins}
use Rattle.city_decimals.proofs.Copied.{untagged_none, escaped_tag}
use Rattle.city_decimals.proofs.Insides.{shield_decoded}
use Rattle.city_decimals.proofs.Needles.{no_shield, form_left, tag_quoted}
use Rattle.city_decimals.specs.internal.Needles.{Lacks, tag_name, attributes_array}
use Rattle.city_decimals.specs.internal.Found.{Found, bytes_of, decoded_of, IsFound, AreFound, open_text}

lacks_tail : (needle : List ℕ) (x : ℕ) (t : List ℕ) → Lacks needle (x ∷ t) → Lacks needle t
lacks_tail needle x t lacks a b e = lacks (x ∷ a) b (ap (λ l. x ∷ l) e)

pub lacks_behind : (needle before t : List ℕ) → Lacks needle (before ++ t) → Lacks needle t
lacks_behind needle before t lacks a b e =
    lacks (before ++ a) b (ap (λ l. before ++ l) e ∙ sym (append_assoc before a (needle ++ b)))

-- the text goes on with `rest` behind what is decoded as `made`
pub record Passed (p : Found) (made rest : List ℕ) : Type 0 where
  pub left : Found
  pub are : IsFound left
  pub text : bytes_of left ≡ rest
  pub out : decoded_of p ≡ made ++ decoded_of left

pub passed_then : (p : Found) (m n r s : List ℕ) (a : Passed p m r) → Passed a.left n s → Passed p (m ++ n) s
passed_then p m n r s a b = record {
  left = b.left;
  are = b.are;
  text = b.text;
  out = a.out ∙ ap (λ t. m ++ t) b.out ∙ sym (append_assoc m n (decoded_of b.left));
}

pub passed_as : (p : Found) (m n r : List ℕ) → m ≡ n → Passed p m r → Passed p n r
passed_as p m n r e a = subst (λ t. Passed p t r) e a

-- an encoded number begins here
pub record IsHere (p : Found) (x : ℕ) (t : List ℕ) : Type 0 where
  pub s : List ℕ
  pub left : Found
  pub number : IsNumber s
  pub plain_is : escape s ≡ s
  pub are : IsFound left
  pub first : x ≡ 123
  pub text : t ≡ 34 ∷ 35 ∷ 34 ∷ 58 ∷ 34 ∷ (s ++ 34 ∷ 125 ∷ bytes_of left)
  pub out : decoded_of p ≡ s ++ decoded_of left

in_front : (front s : List ℕ) (ps : List (List ℕ × List ℕ)) (last : List ℕ) (x : ℕ) (t : List ℕ)
    → AreFound last ((front, s) ∷ ps) → bytes_of ((front, s) ∷ ps, last) ≡ x ∷ t
    → IsHere ((front, s) ∷ ps, last) x t ⊎ Passed ((front, s) ∷ ps, last) (x ∷ []) t
in_front [] s ps last x t h e = inl (record {
  s = s;
  left = (ps, last);
  number = h.1;
  plain_is = h.2;
  are = h.3;
  first = grind arith;
  text = grind arith;
  out = refl;
})
in_front (y ∷ front) s ps last x t h e = inr (record {
  left = ((front, s) ∷ ps, last);
  are = (lacks_tail tag_name y front h.0, h.1, h.2, h.3);
  text = grind arith;
  out = grind arith;
})

pub one_byte : (p : Found) (x : ℕ) (t : List ℕ) → IsFound p → bytes_of p ≡ x ∷ t → IsHere p x t ⊎ Passed p (x ∷ []) t
one_byte ([], last) x t h e = inr (record {
  left = ([], t);
  are = lacks_tail tag_name x t (subst (Lacks tag_name) e h);
  text = refl;
  out = e;
})
one_byte (p ∷ ps, last) x t h e = in_front p.0 p.1 ps last x t h e

-- bytes without a brace
pub passed_free : (w t : List ℕ) (p : Found) → IsFound p → braces w ≡ 0 → bytes_of p ≡ w ++ t → Passed p w t
passed_free [] t p h none e = record { left = p; are = h; text = e; out = refl }
passed_free (x ∷ w) t p h none e = elim (one_byte p x (w ++ t) h e) [
  | inl here ↦ absurd (first_is_none x w none here.first)
  | inr one ↦ passed_then p (x ∷ []) w (w ++ t) t one
      (passed_free w t one.left one.are (later_are_none x w none) one.text)
]

-- ---- strings

-- a text doesn't begin like the tag
abbrev pub BeginsOther : List ℕ → Type 0
BeginsOther t = (u : List ℕ) → t ≡ 35 ∷ u → ⊥

pub begins_other : (x : ℕ) (t : List ℕ) → x ≢ 35 → BeginsOther (x ∷ t)
begins_other x t other u e = other (grind arith)

quote_is_last : (s r u : List ℕ) → escape s ++ 34 ∷ r ≡ 34 ∷ 35 ∷ u → r ≡ 35 ∷ u
quote_is_last [] r u e = grind arith
quote_is_last (x ∷ s) r u e =
    absurd (no_quote x (escape s ++ 34 ∷ r) (ap (λ t. get_or t 0 0) (sym (append_assoc (escape_byte x) (escape s)
    (34 ∷ r)) ∙ e)))

brace_escaped : escape_byte 123 ≡ 123 ∷ []
unfolding escape_byte
brace_escaped = refl

inside_passed : (s r : List ℕ) (p : Found) → IsFound p → BeginsOther r → bytes_of p ≡ escape s ++ 34 ∷ r
    → Passed p (escape s ++ 34 ∷ []) r
inside_passed [] r p h other e = passed_free (34 ∷ []) r p h refl e
inside_passed (x ∷ s) r p h other e = passed_as p (escape_byte x ++ (escape s ++ 34 ∷ [])) (escape (x ∷ s) ++ 34 ∷ []) r
    (sym (append_assoc (escape_byte x) (escape s) (34 ∷ []))) (passed_then p (escape_byte x) (escape s ++ 34 ∷ [])
    (escape s ++ 34 ∷ r) r (byte (cases_eq x 123)) (inside_passed s r (byte (cases_eq x 123)).left
    (byte (cases_eq x 123)).are other (byte (cases_eq x 123)).text))
  where
    text : bytes_of p ≡ escape_byte x ++ (escape s ++ 34 ∷ r)
    text = e ∙ append_assoc (escape_byte x) (escape s) (34 ∷ r)

    byte : (x ≡ 123) ⊎ (x ≢ 123) → Passed p (escape_byte x) (escape s ++ 34 ∷ r)
    byte (inr unlike) = passed_free (escape_byte x) (escape s ++ 34 ∷ r) p h (byte_free x unlike) text
    byte (inl is) =
        let alone : escape_byte x ≡ 123 ∷ [] = ap escape_byte is ∙ brace_escaped in
        elim (one_byte p 123 (escape s ++ 34 ∷ r) h (text ∙ ap (λ t. t ++ (escape s ++ 34 ∷ r)) alone)) [
          | inl here ↦ absurd (other _ (quote_is_last s r _ here.text))
          | inr one ↦ passed_as p (123 ∷ []) (escape_byte x) (escape s ++ 34 ∷ r) (sym alone) one
        ]

pub quoted_passed : (s r : List ℕ) (p : Found) → IsFound p → BeginsOther r → bytes_of p ≡ quoted s ++ r
    → Passed p (quoted s) r
quoted_passed s r p h other e =
    let inside = escape s ++ 34 ∷ [] in
    let first = passed_free (34 ∷ []) (inside ++ r) p h refl e in
    passed_then p (34 ∷ []) inside (inside ++ r) r first
    (inside_passed s r first.left first.are other (first.text ∙ append_assoc (escape s) (34 ∷ []) r))

-- ---- an encoded number

-- strings that begin two texts alike are the same
pub same_inside : (s t r u : List ℕ) → escape s ++ 34 ∷ r ≡ escape t ++ 34 ∷ u → (s ≡ t) × (r ≡ u)
same_inside s t r u e =
    let same : s ≡ t = Some_inj s t (sym (content-escape s r) ∙ ap (content plain) e ∙ content-escape t u) in (
      same,
      rest (escape t) r u (sym (ap (λ n. escape n ++ 34 ∷ r) same) ∙ e),
    )
  where
    rest : (w a b : List ℕ) → w ++ 34 ∷ a ≡ w ++ 34 ∷ b → a ≡ b
    rest [] a b f = grind arith
    rest (x ∷ w) a b f = rest w a b (grind arith)

pub name_here : (k v u : List ℕ) → quoted k ++ 58 ∷ v ≡ 34 ∷ 35 ∷ 34 ∷ 58 ∷ u → (k ≡ tag) × (v ≡ u)
name_here k v u e =
    let inner : escape k ++ 34 ∷ 58 ∷ v ≡ escape tag ++ 34 ∷ 58 ∷ u =
    sym (append_assoc (escape k) (34 ∷ []) (58 ∷ v)) ∙ grind arith ∙ ap (λ t. t ++ 34 ∷ 58 ∷ u) (sym escaped_tag) in
    let same = same_inside k tag (58 ∷ v) (58 ∷ u) inner in (same.0, grind (arith, same.1))

-- a value that begins with a quote is a string
pub string_here : (j : Json) (r u : List ℕ) → HasNumbers j → value_text j ++ r ≡ 34 ∷ u
    → (s : List ℕ) × (j ≡ string s) × (escape s ++ 34 ∷ r ≡ u)
string_here null r u h e = absurd (grind arith)
string_here (boolean true) r u h e = absurd (grind arith)
string_here (boolean false) r u h e = absurd (grind arith)
string_here (number s) r u h e = absurd ((number_begins s r h).2 (ap (λ t. get_or t 0 0) e))
string_here (string s) r u h e = (s, refl, sym (append_assoc (escape s) (34 ∷ []) r) ∙ grind arith)
string_here (array js) r u h e = absurd (grind arith)
string_here (object ms) r u h e = absurd (grind arith)

-- members that end at once
no_more : (ms : Members) (r u : List ℕ) → members_text true ms ++ r ≡ 125 ∷ u → (ms ≡ no_members) × (r ≡ u)
no_more no_members r u e = (refl, grind arith)
no_more (member k j ms) r u e = absurd (grind arith)

number_here : (ms : Members) (s r u : List ℕ) → MembersHaveNumbers ms → escape s ≡ s
    → members_text false ms ++ r ≡ 34 ∷ 35 ∷ 34 ∷ 58 ∷ 34 ∷ (s ++ 34 ∷ 125 ∷ u)
    → (ms ≡ member tag (string s) no_members) × (r ≡ u)
number_here no_members s r u h plain_is e = absurd (grind arith)
number_here (member k j ms) s r u h plain_is e =
    let more = members_text true ms in
    let named = name_here k (value_text j ++ (more ++ r)) (34 ∷ (s ++ 34 ∷ 125 ∷ u))
    (sym (append_assoc (quoted k) (58 ∷ (value_text j ++ more)) r ∙ ap (λ t. quoted k ++ 58 ∷ t) (append_assoc
    (value_text j) more r)) ∙ e) in
    let text = string_here j (more ++ r) (s ++ 34 ∷ 125 ∷ u) h.0 named.1 in
    let same = same_inside text.0 s (more ++ r) (125 ∷ u) (text.2 ∙ ap (λ t. t ++ 34 ∷ 125 ∷ u) (sym plain_is)) in
    let ended = no_more ms r u same.1 in (
      ap₂ (λ n v. member n v ms) named.0 (text.1 ∙ ap string same.0) ∙ ap (member tag (string s)) ended.0,
      ended.1,
    )

-- what an object is decoded as
abbrev pub object_made : Bool → Members → Json
object_made top ms = number_or (number_in ms) (decoded_members top ms)

number_decoded : (top : Bool) (s : List ℕ) → IsNumber s → object_made top (member tag (string s) no_members) ≡ number s
number_decoded top s h = grind arith

-- a text without the tag doesn't end in a part of it before a brace
pub no_tag_before : (front r v : List ℕ) → Lacks tag_name front → front ++ 123 ∷ r ≡ tag_name ++ v → ⊥
no_tag_before [] r v lacks f = absurd (grind arith)
no_tag_before (a ∷ []) r v lacks f = absurd (grind arith)
no_tag_before (a ∷ b ∷ []) r v lacks f = absurd (grind arith)
no_tag_before (a ∷ b ∷ d ∷ []) r v lacks f = absurd (grind arith)
no_tag_before (a ∷ b ∷ d ∷ g ∷ front) r v lacks f = lacks [] front (grind arith)

-- the tag stands nowhere else
no_tag_here : (p : Found) (k v : List ℕ) → IsFound p → bytes_of p ≡ quoted k ++ 58 ∷ v → is_tag k ≡ false
no_tag_here p k v h e = at (is_tag k) refl
  where
    text : k ≡ tag → bytes_of p ≡ tag_name ++ v
    text same = e ∙ ap (λ n. quoted n ++ 58 ∷ v) same ∙ tag_quoted v

    found : (q : Found) → IsFound q → bytes_of q ≡ tag_name ++ v → ⊥
    found ([], last) are f = are [] v f
    found (p ∷ ps, last) are f = no_tag_before p.0 _ v are.0 f

    at : (b : Bool) → is_tag k ≡ b → is_tag k ≡ false
    at false f = f
    at true f = absurd (found p h (text ((bytes_eq-Decides k tag).0 f)))

-- ---- values

pub members_open : (later : Bool) (ms : Members) → members_text later ms ≡ open_text later ms ++ 125 ∷ []
members_open later no_members = refl
members_open later (member k j ms) =
    ap (λ t. comma_if later ++ (quoted k ++ 58 ∷ (value_text j ++ t))) (members_open true ms)
    ∙ grind (arith, append_assoc)

pub comma_free : (later : Bool) → braces (comma_if later) ≡ 0
comma_free true = refl
comma_free false = refl

items_begin : (js : Items) (r : List ℕ) → BeginsOther (items_text true js ++ r)
items_begin no_items r u e = absurd (grind arith)
items_begin (item j js) r u e = absurd (grind arith)

open_begins : (ms : Members) (r : List ℕ) → BeginsOther r → BeginsOther (open_text true ms ++ r)
open_begins no_members r other u e = other u e
open_begins (member k j ms) r other u e = absurd (grind arith)

-- an object whose first name isn't the tag isn't a frame
untagged_front : (top : Bool) (ms : Members) → IsUntagged ms
    → fronted (object (decoded_members top ms)) ≡ object (decoded_members top ms)
untagged_front top no_members h = refl
untagged_front top (member k j ms) h = rw h refl

-- what is decoded of a value, and that it isn't a frame
abbrev ValuePassed : Found → Json → List ℕ → Type 0
ValuePassed p j r = Passed p (value_text (decoded j)) r × (fronted (decoded j) ≡ decoded j)

leaf_passed : (j : Json) (r : List ℕ) (p : Found) → IsFound p → braces (value_text j) ≡ 0 → decoded j ≡ j
    → fronted j ≡ j → bytes_of p ≡ value_text j ++ r → ValuePassed p j r
leaf_passed j r p h none same front e = (
  passed_as p (value_text j) (value_text (decoded j)) r (ap value_text (sym same))
      (passed_free (value_text j) r p h none e),
  ap fronted same ∙ front ∙ sym same,
)

-- an object, by what is passed of its members
pub object_passed : (top : Bool) (ms : Members) (r : List ℕ) (p : Found) → MembersHaveNumbers ms → IsFound p
    → Lacks attributes_array (value_text (object ms) ++ r) → bytes_of p ≡ value_text (object ms) ++ r
    → ((q : Found) → IsFound q → bytes_of q ≡ open_text false ms ++ 125 ∷ r
    → Lacks attributes_array (open_text false ms ++ 125 ∷ r)
    → Passed q (open_text false (decoded_members top ms)) (125 ∷ r) × IsUntagged ms)
    → Passed p (value_text (object_made top ms)) r × (fronted (object_made top ms) ≡ object_made top ms)
object_passed top ms r p n h lacks e members =
    elim (one_byte p 123 (members_text false ms ++ r) h e) [
      | inl here ↦
          let found = number_here ms here.s r (bytes_of here.left) n here.plain_is here.text in
          let made : object_made top ms ≡ number here.s =
          ap (object_made top) found.0 ∙ number_decoded top here.s here.number in (
            record {
              left = here.left;
              are = here.are;
              text = sym found.1;
              out = here.out ∙ ap (λ j. value_text j ++ decoded_of here.left) (sym made);
            },
            ap fronted made ∙ sym made,
          )
      | inr begin ↦
          let text : members_text false ms ++ r ≡ open_text false ms ++ 125 ∷ r =
          ap (λ t. t ++ r) (members_open false ms) ∙ append_assoc (open_text false ms) (125 ∷ []) r in
          let inside = members begin.left begin.are (begin.text ∙ text) (subst (Lacks attributes_array) text
          (lacks_behind attributes_array (123 ∷ []) (members_text false ms ++ r) lacks)) in
          let end = passed_free (125 ∷ []) r inside.0.left inside.0.are refl inside.0.text in
          let made = open_text false (decoded_members top ms) in
          let same : object_made top ms ≡ object (decoded_members top ms) =
          ap (λ o. number_or o (decoded_members top ms)) (untagged_none ms inside.1) in (
            passed_as p (123 ∷ (made ++ 125 ∷ [])) (value_text (object_made top ms)) r
                (ap (λ t. 123 ∷ t) (sym (members_open false (decoded_members top ms))) ∙ ap value_text (sym same))
                (passed_then p (123 ∷ []) (made ++ 125 ∷ []) (members_text false ms ++ r) r begin
                (passed_then begin.left made (125 ∷ []) (125 ∷ r) r inside.0 end)),
            ap fronted same ∙ untagged_front top ms inside.1 ∙ sym same,
          )
    ]

mutual
  pub value_passed : (j : Json) (r : List ℕ) (p : Found) → HasNumbers j → IsFound p → BeginsOther r
      → Lacks attributes_array (value_text j ++ r) → bytes_of p ≡ value_text j ++ r → ValuePassed p j r
  value_passed null r p n h other lacks e = leaf_passed null r p h refl refl refl e
  value_passed (boolean true) r p n h other lacks e = leaf_passed (boolean true) r p h refl refl refl e
  value_passed (boolean false) r p n h other lacks e = leaf_passed (boolean false) r p h refl refl refl e
  value_passed (number s) r p n h other lacks e = leaf_passed (number s) r p h (number_free s n) refl refl e
  value_passed (string s) r p n h other lacks e = (quoted_passed s r p h other e, refl)
  value_passed (array js) r p n h other lacks e =
      let begin = passed_free (91 ∷ []) (items_text false js ++ r) p h refl e in (
        passed_then p (91 ∷ []) (items_text false (decoded_items js)) (items_text false js ++ r) r begin
            (items_passed false js r begin.left n begin.are (lacks_behind attributes_array (91 ∷ [])
            (items_text false js ++ r) lacks) begin.text),
        refl,
      )
  value_passed (object ms) r p n h other lacks e =
      object_passed false ms r p n h lacks e (λ q are f l. open_passed false false ms (125 ∷ r) q n are
      (begins_other 125 r (λ is. omega arith)) l f)

  items_passed : (later : Bool) (js : Items) (r : List ℕ) (p : Found) → ItemsHaveNumbers js → IsFound p
      → Lacks attributes_array (items_text later js ++ r) → bytes_of p ≡ items_text later js ++ r
      → Passed p (items_text later (decoded_items js)) r
  items_passed later no_items r p n h lacks e = passed_free (93 ∷ []) r p h refl e
  items_passed later (item j js) r p n h lacks e =
      let comma = comma_if later in
      let more = items_text true js in
      let text : items_text later (item j js) ++ r ≡ comma ++ (value_text j ++ (more ++ r)) =
      append_assoc comma (value_text j ++ more) r ∙ ap (λ t. comma ++ t) (append_assoc (value_text j) more r) in
      let without = lacks_behind attributes_array comma (value_text j ++ (more ++ r)) (subst (Lacks attributes_array)
      text lacks) in
      let first = passed_free comma (value_text j ++ (more ++ r)) p h (comma_free later) (e ∙ text) in
      let value = value_passed j (more ++ r) first.left n.0 first.are (items_begin js r) without first.text in
      let rest = items_passed true js r value.0.left n.1 value.0.are (lacks_behind attributes_array (value_text j)
      (more ++ r) without) value.0.text in
      passed_then p comma (value_text (decoded j) ++ items_text true (decoded_items js))
      (value_text j ++ (more ++ r)) r first (passed_then first.left (value_text (decoded j))
      (items_text true (decoded_items js)) (more ++ r) r value.0 rest)

  pub open_passed : (top later : Bool) (ms : Members) (r : List ℕ) (p : Found) → MembersHaveNumbers ms → IsFound p
      → BeginsOther r → Lacks attributes_array (open_text later ms ++ r) → bytes_of p ≡ open_text later ms ++ r
      → Passed p (open_text later (decoded_members top ms)) r × IsUntagged ms
  open_passed top later no_members r p n h other lacks e = (record { left = p; are = h; text = e; out = refl }, tt)
  open_passed top later (member k j ms) r p n h other lacks e =
      let comma = comma_if later in
      let more = open_text true ms in
      let value_on = value_text j ++ (more ++ r) in
      let text : open_text later (member k j ms) ++ r ≡ comma ++ (quoted k ++ 58 ∷ value_on) =
      append_assoc comma (quoted k ++ 58 ∷ (value_text j ++ more)) r
      ∙ ap (λ t. comma ++ t) (append_assoc (quoted k) (58 ∷ (value_text j ++ more)) r
      ∙ ap (λ t. quoted k ++ 58 ∷ t) (append_assoc (value_text j) more r)) in
      let whole = subst (Lacks attributes_array) text lacks in
      let without = lacks_behind attributes_array (58 ∷ []) value_on (lacks_behind attributes_array (quoted k)
      (58 ∷ value_on) (lacks_behind attributes_array comma (quoted k ++ 58 ∷ value_on) whole)) in
      let first = passed_free comma (quoted k ++ 58 ∷ value_on) p h (comma_free later) (e ∙ text) in
      let untagged = no_tag_here first.left k value_on first.are first.text in
      let name = quoted_passed k (58 ∷ value_on) first.left first.are (begins_other 58 value_on (λ is. omega arith))
      first.text in
      let colon = passed_free (58 ∷ []) value_on name.left name.are refl name.text in
      let value = value_passed j (more ++ r) colon.left n.0 colon.are (open_begins ms r other) without colon.text in
      let rest = open_passed top true ms r value.0.left n.1 value.0.are other (lacks_behind attributes_array
      (value_text j) (more ++ r) without) value.0.text in
      let made = value_text (decoded j) in
      let rest_made = open_text true (decoded_members top ms) in
      let form : out_of_form top k j (decoded j) ≡ decoded j = form_left top k j (decoded j) value.1
      (shield_decoded k j ∙ no_shield comma k j (more ++ r) untagged whole) in (
        passed_as p (comma ++ (quoted k ++ 58 ∷ (made ++ rest_made))) (open_text later (decoded_members top
            (member k j ms))) r (ap (λ v. comma ++ (quoted k ++ 58 ∷ (value_text v ++ rest_made))) (sym form))
            (passed_then p comma (quoted k ++ 58 ∷ (made ++ rest_made)) (quoted k ++ 58 ∷ value_on) r first
            (passed_then first.left (quoted k) (58 ∷ (made ++ rest_made)) (58 ∷ value_on) r name
            (passed_then name.left (58 ∷ []) (made ++ rest_made) value_on r colon
            (passed_then colon.left made rest_made (more ++ r) r value.0 rest.0)))),
        untagged,
      )
