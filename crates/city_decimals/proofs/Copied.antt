-- The copy of a compact text, from its parts.
use Rattle.city_decimals.proofs.Prelude.{◌≡◌, ℕ, ◌-◌, ◌<◌, ◌≤◌, List, [], ◌∷◌, ◌++◌, length, Bool, true, false, Some}
use Rattle.city_decimals.proofs.Prelude.{None, refl, sym, ap, ◌∙◌, arith, append_assoc, append-nil, codes, IfSome}
use Rattle.city_decimals.proofs.Prelude.{bytes_eq, bytes_eq-Decides, Items, Json, null, boolean, number, string, array}
use Rattle.city_decimals.proofs.Prelude.{object, no_items, item, Members, no_members, member, escape, quoted, IsNumber}
use Rattle.city_decimals.proofs.Prelude.{HasNumbers, depth, Some_inj, is_attributes, is_tag, is_transform, tag, decoded}
use Rattle.city_decimals.proofs.Prelude.{decoded_members, number_in, number_or, Moves, value_text, items_text}
use Rattle.city_decimals.proofs.Prelude.{members_text, comma_if, State, IsUntagged, IsCopied, IsItemCopied}
use Rattle.city_decimals.proofs.Prelude.{AreItemsCopied, AreMembersCopied, IsFrameCopied}
use Rattle.std.proofs.Common.{◌&&◌, length-append}
use Rattle.std.specs.Prelude.{Option}
use Rattle.json.specs.Print.{escape_byte}
use Rattle.json.specs.Text.{content, plain}
use Rattle.json.specs.Word.{after_number}
use Rattle.json.proofs.Printed.Strings.{content-escape}
use Rattle.city_decimals.specs.internal.Compact.{IsMemberCopied, IsKeyPassed}
use Rattle.city_decimals.specs.internal.Forms.{is_bare, BeginsBare}
use Rattle.city_decimals.proofs.Bare.{begins_bare}

pub moves_on : (a b d : State) (xs ys us vs : List ℕ) → Moves a b xs ys → Moves b d us vs
    → Moves a d (xs ++ us) (ys ++ vs)
moves_on a b d xs ys us vs first second = search (arith, append_assoc)

pub moves_as : (a b : State) (xs ys us vs : List ℕ) → Moves a b xs ys → xs ≡ us → ys ≡ vs → Moves a b us vs
moves_as a b xs ys us vs moves first second = grind arith

-- ---- values

pub string_copied : (f : Json → Json) → ((s : List ℕ) → f (string s) ≡ string s) → (limit : ℕ) (a b d : State)
    (inside : List ℕ) → Moves a b (34 ∷ []) (34 ∷ [])
    → (s : List ℕ) × (inside ≡ escape s) × Moves b d (escape s ++ 34 ∷ []) (escape s ++ 34 ∷ []) → IsCopied f limit a d
string_copied f same limit a b d inside first (s, e, rest) =
    record {
      j = string s;
      moves = moves_as a d (quoted s) (quoted s) (quoted s) (value_text (f (string s)))
          (moves_on a b d (34 ∷ []) (34 ∷ []) (escape s ++ 34 ∷ []) (escape s ++ 34 ∷ []) first rest) refl
          (ap value_text (sym (same s)));
      numbers = tt;
      shallow = omega arith;
    }

pub number_copied : (limit : ℕ) (a b : State) → (s : List ℕ) × IsNumber s × (escape s ≡ s) × Moves a b s s
    → IsCopied decoded limit a b
number_copied limit a b (s, h, e, moves) =
    record { j = number s; moves = moves; numbers = h; shallow = omega arith }

pub name_copied : (f : Json → Json) (limit : ℕ) (a b : State) (j : Json) → HasNumbers j → depth j ≡ 0 → f j ≡ j
    → Moves a b (value_text j) (value_text j) → IsCopied f limit a b
name_copied f limit a b j h flat same moves = grind arith

pub array_copied : (f : Json → Json) (g : Items → Items) → ((js : Items) → f (array js) ≡ array (g js))
    → (limit : ℕ) (a b d : State) → (limit ≡ 0 → ⊥) → Moves a b (91 ∷ []) (91 ∷ [])
    → AreItemsCopied g false (limit - 1) b d → IsCopied f limit a d
array_copied f g same limit a b d some first rest =
    record {
      j = array rest.js;
      moves = moves_as a d (91 ∷ items_text false rest.js) (91 ∷ items_text false (g rest.js))
          (value_text (array rest.js)) (value_text (f (array rest.js)))
          (moves_on a b d (91 ∷ []) (91 ∷ []) (items_text false rest.js) (items_text false (g rest.js))
          first rest.moves) refl (ap value_text (sym (same rest.js)));
      numbers = rest.numbers;
      shallow = omega (arith, some, rest.shallow);
    }

-- ---- objects

pub untagged_none : (ms : Members) → IsUntagged ms → number_in ms ≡ None
untagged_none ms h = grind arith

pub object_decoded : (ms : Members) → IsUntagged ms → decoded (object ms) ≡ object (decoded_members false ms)
object_decoded ms h = ap (λ o. number_or o (decoded_members false ms)) (untagged_none ms h)

pub object_copied : (f : Json → Json) (h : Members → Members)
    → ((ms : Members) → IsUntagged ms → f (object ms) ≡ object (h ms)) → (limit : ℕ) (a b d : State)
    → (limit ≡ 0 → ⊥) → Moves a b (123 ∷ []) (123 ∷ []) → AreMembersCopied h false (limit - 1) b d → IsCopied f
    limit a d
object_copied f h same limit a b d some first rest =
    record {
      j = object rest.ms;
      moves = moves_as a d (123 ∷ members_text false rest.ms) (123 ∷ members_text false (h rest.ms))
          (value_text (object rest.ms)) (value_text (f (object rest.ms)))
          (moves_on a b d (123 ∷ []) (123 ∷ []) (members_text false rest.ms) (members_text false (h rest.ms))
          first rest.moves) refl (ap value_text (sym (same rest.ms rest.untagged)));
      numbers = rest.numbers;
      shallow = omega (arith, some, rest.shallow);
    }

pub encoded_copied : (limit : ℕ) (a b d e : State) → (limit ≡ 0 → ⊥)
    → Moves a b (123 ∷ 34 ∷ 35 ∷ 34 ∷ 58 ∷ 34 ∷ []) []
    → (s : List ℕ) × IsNumber s × (escape s ≡ s) × Moves b d s s
    → Moves d e (34 ∷ 125 ∷ []) [] → IsCopied decoded limit a e
unfolding escape_byte
encoded_copied limit a b d e some first (s, h, same, moves) last =
    let begin : List ℕ = 123 ∷ 34 ∷ 35 ∷ 34 ∷ 58 ∷ 34 ∷ [] in
    record {
      j = object (member tag (string s) no_members);
      moves = search (arith, append_assoc, append-nil);
      numbers = (tt, tt);
      shallow = omega (arith, some);
    }

-- ---- items

pub items_end : (g : Items → Items) → g no_items ≡ no_items → (later : Bool) (limit : ℕ) (a b : State)
    → Moves a b (93 ∷ []) (93 ∷ []) → AreItemsCopied g later limit a b
items_end g same later limit a b moves =
    record {
      js = no_items;
      moves = grind arith;
      numbers = tt;
      shallow = omega arith;
    }

pub items_first : (f : Json → Json) (g : Items → Items) → ((j : Json) (js : Items) → g (item j js) ≡ item (f j) (g js))
    → (later : Bool) (limit : ℕ) (a b d : State) → IsItemCopied f later limit a b → AreItemsCopied g true limit b d
    → AreItemsCopied g later limit a d
items_first f g same later limit a b d first rest =
    let comma = comma_if later in
    record {
      js = item first.j rest.js;
      moves = search (arith, append_assoc);
      numbers = (first.numbers, rest.numbers);
      shallow = omega (arith, first.shallow, rest.shallow);
    }

-- ---- members

regroup : (c q v r : List ℕ) → (c ++ (q ++ 58 ∷ v)) ++ r ≡ c ++ (q ++ 58 ∷ (v ++ r))
regroup c q v r = append_assoc c (q ++ 58 ∷ v) r ∙ ap (λ w. c ++ w) (append_assoc q (58 ∷ v) r)

pub members_end : (h : Members → Members) → h no_members ≡ no_members → (later : Bool) (limit : ℕ) (a b : State)
    → Moves a b (125 ∷ []) (125 ∷ []) → AreMembersCopied h later limit a b
members_end h same later limit a b moves =
    record {
      ms = no_members;
      moves = grind arith;
      untagged = tt;
      numbers = tt;
      shallow = omega arith;
    }

pub members_first : (m : List ℕ → Json → Json) (h : Members → Members)
    → ((k : List ℕ) (j : Json) (ms : Members) → h (member k j ms) ≡ member k (m k j) (h ms))
    → (later : Bool) (limit : ℕ) (a b d : State) → IsMemberCopied m later limit a b
    → AreMembersCopied h true limit b d → AreMembersCopied h later limit a d
members_first m h same later limit a b d first rest =
    let comma = comma_if later in
    let q = quoted first.k in
    let made = m first.k first.j in
    let more = members_text true (h rest.ms) in
    record {
      ms = member first.k first.j rest.ms;
      moves = moves_as a d ((comma ++ (q ++ 58 ∷ value_text first.j)) ++ members_text true rest.ms)
          ((comma ++ (q ++ 58 ∷ value_text made)) ++ more)
          (members_text later (member first.k first.j rest.ms))
          (members_text later (h (member first.k first.j rest.ms)))
          (search (arith, moves_on))
          (regroup comma q (value_text first.j) (members_text true rest.ms))
          (regroup comma q (value_text made) more ∙ ap (members_text later) (sym (same first.k first.j rest.ms)));
      untagged = first.untagged;
      numbers = (first.numbers, rest.numbers);
      shallow = omega (arith, first.shallow, rest.shallow);
    }

-- the inside of quotes tells the name
pub escaped_tag : escape tag ≡ 35 ∷ []
unfolding escape_byte
escaped_tag = refl

escaped_transform : escape (codes "transform") ≡ codes "transform"
unfolding escape_byte
escaped_transform = refl

named : content plain (codes "transform" ++ 34 ∷ []) ≡ Some (codes "transform")
unfolding content
named = refl

is_transform_name : (k : List ℕ) → escape k ≡ codes "transform" → bytes_eq k (codes "transform") ≡ true
is_transform_name k e =
    (bytes_eq-Decides k (codes "transform")).1 (Some_inj _ _ (sym (content-escape k [])
    ∙ ap (λ t. content plain (t ++ 34 ∷ [])) e ∙ named))

false_from : (k name : List ℕ) (b : Bool) → bytes_eq k name ≡ b → (k ≡ name → ⊥) → b ≡ false
false_from k name b e h = search (arith, bytes_eq-Decides)

pub untagged_key : (k key : List ℕ) → key ≡ escape k → bytes_eq key (35 ∷ []) ≡ false → is_tag k ≡ false
untagged_key k key is h = search (arith, false_from, escaped_tag)

not_framed : (top : Bool) (k key : List ℕ) (j : Json) → key ≡ escape k
    → (top && bytes_eq key (codes "transform")) ≡ false → (top && is_transform k j) ≡ false
not_framed top k key j is h = search (arith, false_from, escaped_transform)

-- the text of a member, from its name's and its value's
key_then : (c q v : List ℕ) → (c ++ (q ++ 58 ∷ [])) ++ v ≡ c ++ (q ++ 58 ∷ v)
key_then c q v = regroup c q [] v

-- the value of a member, with f of it as the output
member_of : (f : Json → Json) (m : List ℕ → Json → Json) (later : Bool) (limit : ℕ) (a b d : State) (k : List ℕ) (j
    : Json)
    → Moves a b (comma_if later ++ (quoted k ++ 58 ∷ [])) (comma_if later ++ (quoted k ++ 58 ∷ []))
    → Moves b d (value_text j) (value_text (f j)) → m k j ≡ f j → is_tag k ≡ false → HasNumbers j → depth j ≤ limit
    → IsMemberCopied m later limit a d
member_of f m later limit a b d k j passed moves form untagged numbers shallow =
    let name_text = comma_if later ++ (quoted k ++ 58 ∷ []) in
    record {
      k = k;
      j = j;
      moves = moves_as a d (name_text ++ value_text j) (name_text ++ value_text (f j))
          (comma_if later ++ (quoted k ++ 58 ∷ value_text j)) (comma_if later ++ (quoted k ++ 58 ∷ value_text (m k j)))
          (moves_on a b d name_text name_text (value_text j) (value_text (f j)) passed moves)
          (key_then (comma_if later) (quoted k) (value_text j))
          (grind (arith, key_then (comma_if later) (quoted k) (value_text (f j))));
      untagged = untagged;
      numbers = numbers;
      shallow = shallow;
    }

escaped_attributes : escape (codes "attributes") ≡ codes "attributes"
unfolding escape_byte
escaped_attributes = refl

bare_value : (k key : List ℕ) (j : Json) (text rest : List ℕ) → key ≡ escape k → HasNumbers j
    → text ≡ value_text j ++ rest → (bytes_eq key (codes "attributes") ≡ true → BeginsBare text)
    → is_attributes k ≡ true → is_bare j ≡ true
bare_value k key j text rest is h e begins at =
    search (arith, begins_bare, bytes_eq-Decides, codes, escape, escaped_attributes)

pub member_plain : (f : Json → Json) (m : Bool → List ℕ → Json → Json)
    → ((top : Bool) (k : List ℕ) (j : Json) → (top && is_transform k j) ≡ false → is_tag k ≡ false
    → (is_attributes k ≡ true → is_bare j ≡ true) → m top k j ≡ f j)
    → (later top : Bool) (limit : ℕ) (a b d : State) (key : List ℕ) → IsKeyPassed later key a b
    → bytes_eq key (35 ∷ []) ≡ false → (top && bytes_eq key (codes "transform")) ≡ false
    → (bytes_eq key (codes "attributes") ≡ true → BeginsBare b.2) → IsCopied f limit b d
    → IsMemberCopied (m top) later limit a d
member_plain f m form later top limit a b d key named other no_frame begins rest =
    search (arith, untagged_key, member_of, not_framed, bare_value)

pub member_framed : (f : Json → Json) (m : Bool → List ℕ → Json → Json)
    → ((top : Bool) (k : List ℕ) (j : Json) → top ≡ true → is_transform k j ≡ true → m top k j ≡ f j)
    → (later top : Bool) (limit : ℕ) (a b d : State) (key : List ℕ) → IsKeyPassed later key a b
    → bytes_eq key (35 ∷ []) ≡ false → (top && bytes_eq key (codes "transform")) ≡ true → IsFrameCopied f limit b d
    → IsMemberCopied (m top) later limit a d
member_framed f m form later top limit a b d key passed other framed_here rest =
    search (arith, bytes_eq-Decides, is_transform_name, member_of)

-- ---- a value has at least one byte

number_some : (s : List ℕ) → IsNumber s → 0 < length s
unfolding after_number
number_some s h = grind arith

pub value_some : (j : Json) → HasNumbers j → 0 < length (value_text j)
value_some null h = omega arith
value_some (boolean true) h = omega arith
value_some (boolean false) h = omega arith
value_some (number s) h = number_some s h
value_some (string s) h = omega arith
value_some (array js) h = omega arith
value_some (object ms) h = omega arith

pub some_weaker : {T : Type 0} (o : Option T) {P Q : T → Type 0} → ((t : T) → P t → Q t) → IfSome o P → IfSome o Q
some_weaker o f h = grind arith

pub item_shorter : (f : Json → Json) (later : Bool) (limit : ℕ) (a b : State) → IsItemCopied f later limit a b
    → length b.2 < length a.2
item_shorter f later limit a b h = search (arith, value_some, length-append)
