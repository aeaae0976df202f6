-- An encoded value is decoded to itself.
use Rattle.city_decimals.proofs.Prelude.{arith, ◌≡◌, ℕ, suc, List, Bool, true, false, cond, Option, Some, None, refl}
use Rattle.city_decimals.proofs.Prelude.{ap, ap₂, ◌∙◌, ◌&&◌, codes, option_map, bytes_eq, bytes_eq-Decides, Json, null}
use Rattle.city_decimals.proofs.Prelude.{boolean, number, string, array, object, Items, no_items, item, Members}
use Rattle.city_decimals.proofs.Prelude.{no_members, member, HasNumbers, ItemsHaveNumbers, MembersHaveNumbers, is_whole}
use Rattle.city_decimals.proofs.Prelude.{is_number, is_end, is_tag, is_frame, is_transform, is_shielded, has_shield}
use Rattle.city_decimals.proofs.Prelude.{form_of, in_form, framed, fronted, only, tagged, encoded, encoded_items}
use Rattle.city_decimals.proofs.Prelude.{encoded_members, encoded_top, number_under, out_of_form, decoded}
use Rattle.city_decimals.proofs.Prelude.{decoded_items, decoded_members, decoded_top, Plain, Shielded, is_attributes}
use Rattle.city_decimals.proofs.Prelude.{is_fraction, is_single, is_text_or_array}
use Rattle.std.proofs.Common.{zero, ◌||◌}
use Rattle.json.specs.Find.{get_member, get_item, later_or, at}
use Rattle.city_decimals.specs.Shapes.{is_triple}
use Rattle.city_decimals.specs.declared.shapes.Form.TheVariants.{Framed}
use Rattle.city_decimals.proofs.Bools.{and_map, and_less}

-- ---- an encoded value is a transform only if the value is one

item_encoded : (i : ℕ) (js : Items) → get_item i (encoded_items js) ≡ option_map encoded (get_item i js)
item_encoded zero no_items = refl
item_encoded (suc i) no_items = refl
item_encoded zero (item j js) = refl
item_encoded (suc i) (item j js) = item_encoded i js

at_encoded : (i : ℕ) (j : Json) → at i (encoded j) ≡ option_map encoded (at i j)
at_encoded i j = search (arith, item_encoded)

triple_encoded : (o : Option Json) → is_triple (option_map encoded o) ≡ true → is_triple o ≡ true
triple_encoded o h = search (arith, at_encoded)

bare : (b : Bool) (c : Json) → b ≡ false → in_form (cond b Shielded Plain) c ≡ c
bare b c e = grind arith

named_encoded : (b : Bool) (o : Option Json) (c d : Json) → (b ≡ true → d ≡ encoded c)
    → later_or (option_map encoded o) (cond b (Some d) None) ≡ option_map encoded (later_or o (cond b (Some c) None))
named_encoded b o c d h = grind arith

-- under each name with nothing shielded
get_encoded : (name : List ℕ) → ((k : List ℕ) (j : Json) → bytes_eq k name ≡ true → is_shielded k j ≡ false)
    → (ms : Members)
    → get_member name (encoded_members false ms) ≡ option_map encoded (get_member name ms)
get_encoded name other no_members = refl
get_encoded name other (member k j ms) =
    ap (λ o. later_or o (cond (bytes_eq k name) (Some (in_form (form_of false k j) (encoded j))) None))
    (get_encoded name other ms)
    ∙ named_encoded (bytes_eq k name) (get_member name ms) j (in_form (form_of false k j) (encoded j)) (λ e. bare
    (is_shielded k j) (encoded j) (other k j e))

no_frame : (b : Bool) (s : List ℕ) → is_frame (cond b (number s) (tagged s)) ≡ true → is_frame (number s) ≡ true
no_frame b s h = grind arith

module _ (scale_other : (k : List ℕ) (j : Json) → bytes_eq k (codes "scale") ≡ true
    → is_shielded k j ≡ false) (translate_other : (k : List ℕ) (j : Json) → bytes_eq k (codes "translate") ≡ true
    → is_shielded k j ≡ false) where
  frame_encoded_with : (j : Json) → is_frame (encoded j) ≡ true → is_frame j ≡ true
  frame_encoded_with j h = search (arith, no_frame, and_map, triple_encoded, get_encoded)

-- nothing is shielded under these names
scale_is_other : (k : List ℕ) (j : Json) → bytes_eq k (codes "scale") ≡ true → is_shielded k j ≡ false
scale_is_other k j e = ap (λ k. is_shielded k j) ((bytes_eq-Decides k (codes "scale")).0 e)

translate_is_other : (k : List ℕ) (j : Json) → bytes_eq k (codes "translate") ≡ true → is_shielded k j ≡ false
translate_is_other k j e = ap (λ k. is_shielded k j) ((bytes_eq-Decides k (codes "translate")).0 e)

frame_encoded : (j : Json) → is_frame (encoded j) ≡ true → is_frame j ≡ true
frame_encoded j h = frame_encoded_with scale_is_other translate_is_other j h

-- ---- a member

-- a value that isn't shielded stays as it is when shields are opened
pub only_other : (k : List ℕ) (j : Json) → is_shielded k j ≡ false → cond (has_shield k j) (only j) j ≡ j
only_other k j h = other (is_tag k) (is_attributes k) j h
  where
    other : (t a : Bool) (j : Json) → ((t && is_text_or_array j) || (a && (is_fraction j || is_single j))) ≡ false
        → cond (t || (a && is_single j)) (only j) j ≡ j
    other t a j h = grind arith

-- the array around a shielded value is recognized as a shield
pub shield_is : (k : List ℕ) (j : Json) → is_shielded k j ≡ true → has_shield k (array (item j no_items)) ≡ true
shield_is k j h = is (is_tag k) (is_attributes k) j h
  where
    is : (t a : Bool) (j : Json) → ((t && is_text_or_array j) || (a && (is_fraction j || is_single j))) ≡ true
        → (t || (a && is_single (array (item j no_items)))) ≡ true
    is t a j h = grind arith

only_frame : (j : Json) → is_frame j ≡ true → only j ≡ j
only_frame j h = grind arith

frame_in : (a b c : Bool) → (a && (b && c)) ≡ true → c ≡ true
frame_in a b c h = grind arith

frame_stays : (a b c : Bool) → (a && (b && c)) ≡ true → (a && (b && true)) ≡ true
frame_stays a b c h = grind arith

module _ (top : Bool) (k : List ℕ) (j : Json) (back : decoded (encoded j) ≡ j) where
  in_none : (top && is_transform k j) ≡ false → is_shielded k j ≡ false
      → out_of_form top k (encoded j) (decoded (encoded j)) ≡ j
  in_none e f =
      let r = decoded (encoded j) in
      let no_transform = and_less top (bytes_eq k (codes "transform")) (is_frame j) (is_frame (encoded j))
      (frame_encoded j) e in grind arith

  in_frame : (top && is_transform k j) ≡ true
      → out_of_form top k (framed (encoded j)) (decoded (framed (encoded j))) ≡ j
  in_frame e =
      let f = framed (encoded j) in
      let r = decoded f in
      ap (λ b. cond b (fronted r) (cond (has_shield k r) (only r) r)) (frame_stays top (bytes_eq k (codes "transform"))
      (is_frame j) e) ∙ ap only back ∙ only_frame j (frame_in top (bytes_eq k (codes "transform")) (is_frame j) e)

  in_shield : is_shielded k j ≡ true
      → out_of_form top k (array (item (encoded j) no_items)) (array (item (decoded (encoded j)) no_items)) ≡ j
  in_shield f = grind (arith, shield_is k (decoded (encoded j)) (ap (is_shielded k) back ∙ f))

  in_the_form : (a b : Bool) → (top && is_transform k j) ≡ a → is_shielded k j ≡ b
      → out_of_form top k (in_form (cond a Framed (cond b Shielded Plain)) (encoded j)) (decoded (in_form
      (cond a Framed (cond b Shielded Plain)) (encoded j))) ≡ j
  in_the_form true b e f = in_frame e
  in_the_form false true e f = in_shield f
  in_the_form false false e f = in_none e f

  member_back : out_of_form top k (in_form (form_of top k j) (encoded j)) (decoded (in_form (form_of top k j)
      (encoded j))) ≡ j
  member_back = in_the_form (top && is_transform k j) (is_shielded k j) refl refl

-- ---- encoded members are not taken for a number

under_number : (k : List ℕ) (b : Bool) (s : List ℕ) → number_under k (cond b (number s) (tagged s)) ≡ None
under_number k b s = grind arith

pub no_number_bare : (k : List ℕ) (j : Json) → is_shielded k j ≡ false
    → number_under k (encoded j) ≡ None
no_number_bare k null h = refl
no_number_bare k (boolean b) h = refl
no_number_bare k (number s) h = under_number k (is_whole s) s
no_number_bare k (string s) h =
    ap (λ b. cond (b && is_number s) (Some s) None) (untagged (is_tag k) (is_attributes k) h)
  where
    untagged : (b a : Bool) → ((b && true) || (a && false)) ≡ false → b ≡ false
    untagged b a e = grind arith
no_number_bare k (array js) h = refl
no_number_bare k (object ms) h = refl

-- ---- the round trip

pub number_back : (b : Bool) (s : List ℕ) → is_number s ≡ true → decoded (cond b (number s) (tagged s)) ≡ number s
number_back b s h = grind arith

mutual
  pub back : (j : Json) → HasNumbers j → decoded (encoded j) ≡ j
  back null h = refl
  back (boolean b) h = refl
  back (number s) h = number_back (is_whole s) s (ap is_end h)
  back (string s) h = refl
  back (array js) h = ap array (items_back js h)
  back (object ms) h = grind (arith, members_back false ms h)

  items_back : (js : Items) → ItemsHaveNumbers js → decoded_items (encoded_items js) ≡ js
  items_back no_items h = refl
  items_back (item j js) h = ap₂ item (back j h.0) (items_back js h.1)

  members_back : (top : Bool) (ms : Members) → MembersHaveNumbers ms → decoded_members top (encoded_members top ms) ≡ ms
  members_back top no_members h = refl
  members_back top (member k j ms) h = ap₂ (member k) (member_back top k j (back j h.0)) (members_back top ms h.1)

-- each number is back exactly as written, each member in its place
pub top_back : (j : Json) → HasNumbers j → decoded_top (encoded_top j) ≡ j
top_back j h = search (arith, items_back, members_back)
