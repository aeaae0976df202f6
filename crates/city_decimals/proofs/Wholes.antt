-- Each number of an encoded value is whole, so the editor finds no other.
use Rattle.city_decimals.proofs.Prelude.{bytes_eq, ◌≡◌, ℕ, ◌+◌, ◌<◌, List, [], ◌∷◌, Bool, true, false, true≢false, cond}
use Rattle.city_decimals.proofs.Prelude.{Option, Some, None, Ordering, nat_cmp, refl, sym, ap, ◌∙◌, arith, ◌&&◌, codes}
use Rattle.city_decimals.proofs.Prelude.{option_map, option_and_then, match_ordering, slice_cmp, decimal_digit}
use Rattle.city_decimals.proofs.Prelude.{Some_inj, Num, Data, put, number_of, of_json, of_items, of_members}
use Rattle.city_decimals.proofs.Prelude.{number_of-decimal, is_written_so, is_whole, in_form, form_of, tagged, encoded}
use Rattle.city_decimals.proofs.Prelude.{encoded_items, encoded_members, encoded_top, is_integral, Form}
use Rattle.std.specs.Prelude.{is_some}
use Rattle.std.proofs.lemmas.Bool.{and_from, and_parts}
use Rattle.serde_json.specs.Data.{unsigned, null, boolean, number, string, array, object, Items, no_items, item}
use Rattle.serde_json.specs.Data.{Members, no_members, member}
use Rattle.serde_json.specs.Find.{as_i64}
use Rattle.city_decimals.specs.Whole.{items_integral, members_integral}
use Rattle.json.specs.Json as json

abbrev mutual
  pub AreWhole : json.Json → Type 0
  AreWhole json.null = Unit {0}
  AreWhole (json.boolean b) = Unit {0}
  AreWhole (json.number s) = is_whole s ≡ true
  AreWhole (json.string s) = Unit {0}
  AreWhole (json.array js) = ItemsAreWhole js
  AreWhole (json.object ms) = MembersAreWhole ms

  pub ItemsAreWhole : json.Items → Type 0
  ItemsAreWhole json.no_items = Unit {0}
  ItemsAreWhole (json.item j js) = AreWhole j × ItemsAreWhole js

  pub MembersAreWhole : json.Members → Type 0
  MembersAreWhole json.no_members = Unit {0}
  MembersAreWhole (json.member k j ms) = AreWhole j × MembersAreWhole ms

-- ---- an encoded value

whole_digit : (n : ℕ) → n < 10 → is_some (as_i64 (unsigned n)) && bytes_eq ((48 + n) ∷ []) ((48 + n) ∷ []) ≡ true
    → is_whole ((48 + n) ∷ []) ≡ true
whole_digit n h e = grind (arith, decimal_digit n h, number_of-decimal n (omega arith))

whole_one : is_whole (codes "1") ≡ true
whole_one = whole_digit 1 (omega arith) refl

whole_none : is_whole (codes "0") ≡ true
whole_none = whole_digit 0 (omega arith) refl

whole_number : (b : Bool) (s : List ℕ) → is_whole s ≡ b → AreWhole (cond b (json.number s) (tagged s))
whole_number b s e = grind arith

pub whole_in_form : (w : Form) (j : json.Json) → AreWhole j → AreWhole (in_form w j)
whole_in_form w j h = search (arith, whole_one, whole_none)

mutual
  pub whole : (j : json.Json) → AreWhole (encoded j)
  whole json.null = tt
  whole (json.boolean b) = tt
  whole (json.number s) = whole_number (is_whole s) s refl
  whole (json.string s) = tt
  whole (json.array js) = items_whole js
  whole (json.object ms) = members_whole false ms

  items_whole : (js : json.Items) → ItemsAreWhole (encoded_items js)
  items_whole json.no_items = tt
  items_whole (json.item j js) = (whole j, items_whole js)

  members_whole : (top : Bool) (ms : json.Members) → MembersAreWhole (encoded_members top ms)
  members_whole top json.no_members = tt
  members_whole top (json.member k j ms) = (whole_in_form (form_of top k j) (encoded j) (whole j), members_whole top ms)

pub top_whole : (j : json.Json) → AreWhole (encoded_top j)
top_whole j = search (arith, items_whole, members_whole)

-- ---- the value as read

pub mapped : {A B : Type 0} (f : A → B) (o : Option A) (b : B) → option_map f o ≡ Some b
    → (a : A) × (o ≡ Some a) × (f a ≡ b)
mapped f o b e = grind arith

pub bound : {A B : Type 0} (f : A → Option B) (o : Option A) (b : B) → option_and_then f o ≡ Some b
    → (a : A) × (o ≡ Some a) × (f a ≡ Some b)
bound f o b e = grind arith

put_at : (o : Ordering) (k l : List ℕ) (d e : Data) (ms : Members) → is_integral d ≡ true
    → (is_integral e && members_integral ms) ≡ true → members_integral (put k d ms) ≡ true
    → members_integral (match_ordering o (member k d (member l e ms)) (member l d ms) (member l e (put k d ms))) ≡ true
put_at o k l d e ms h hs rest = grind arith

put_integral : (k : List ℕ) (d : Data) (ms : Members) → is_integral d ≡ true → members_integral ms ≡ true
    → members_integral (put k d ms) ≡ true
put_integral k d no_members h hs = and_from (is_integral d) true h refl
put_integral k d (member l e ms) h hs = put_at (slice_cmp nat_cmp k l) k l d e ms h hs (put_integral k d ms h
    (and_parts (is_integral e) (members_integral ms) hs).1)

mutual
  pub integral : (j : json.Json) (d : Data) → AreWhole j → of_json j ≡ Some d → is_integral d ≡ true
  integral json.null d h e = ap is_integral (sym (Some_inj _ _ e))
  integral (json.boolean b) d h e = ap is_integral (sym (Some_inj _ _ e))
  integral (json.number s) d h e = grind arith
  integral (json.string s) d h e = ap is_integral (sym (Some_inj _ _ e))
  integral (json.array js) d h e =
      let m = mapped array (of_items js) d e in
      ap is_integral (sym m.2) ∙ items_are js m.0 h m.1
  integral (json.object ms) d h e =
      let m = mapped object (of_members ms no_members) d e in
      ap is_integral (sym m.2) ∙ members_are ms no_members m.0 h refl m.1

  items_are : (js : json.Items) (ds : Items) → ItemsAreWhole js → of_items js ≡ Some ds → items_integral ds ≡ true
  items_are json.no_items ds h e = ap items_integral (sym (Some_inj _ _ e))
  items_are (json.item j js) ds h e =
      let b = bound (λ d. option_map (item d) (of_items js)) (of_json j) ds e in
      let m = mapped (item b.0) (of_items js) ds b.2 in grind (arith, integral j b.0 h.0 b.1, items_are js m.0 h.1 m.1)

  members_are : (ms : json.Members) (found ds : Members) → MembersAreWhole ms → members_integral found ≡ true
      → of_members ms found ≡ Some ds → members_integral ds ≡ true
  members_are json.no_members found ds h before e = ap members_integral (sym (Some_inj _ _ e)) ∙ before
  members_are (json.member k j ms) found ds h before e =
      let b = bound (λ d. of_members ms (put k d found)) (of_json j) ds e in
      members_are ms (put k b.0 found) ds h.1 (put_integral k b.0 found (integral j b.0 h.0 b.1) before) b.2

-- it is read in any case

number_readable : (s : List ℕ) (o : Option Num) → number_of s ≡ o → is_written_so s o ≡ true
    → (d : Data) × (option_map number (number_of s) ≡ Some d)
number_readable s None is h = absurd (true≢false (sym h))
number_readable s (Some n) is h = (number n, ap (option_map number) is)

mutual
  pub readable : (j : json.Json) → AreWhole j → (d : Data) × (of_json j ≡ Some d)
  readable json.null h = (null, refl)
  readable (json.boolean b) h = (boolean b, refl)
  readable (json.number s) h = number_readable s (number_of s) refl h
  readable (json.string s) h = (string s, refl)
  readable (json.array js) h = let r = items_readable js h in (array r.0, ap (option_map array) r.1)
  readable (json.object ms) h = let r = members_readable ms h no_members in (object r.0, ap (option_map object) r.1)

  items_readable : (js : json.Items) → ItemsAreWhole js → (ds : Items) × (of_items js ≡ Some ds)
  items_readable json.no_items h = (no_items, refl)
  items_readable (json.item j js) h =
      let i = readable j h.0 in
      let r = items_readable js h.1 in
      (item i.0 r.0, ap (option_and_then (λ d. option_map (item d) (of_items js))) i.1 ∙ ap (option_map (item i.0)) r.1)

  members_readable : (ms : json.Members) → MembersAreWhole ms → (found : Members)
      → (ds : Members) × (of_members ms found ≡ Some ds)
  members_readable json.no_members h found = (found, refl)
  members_readable (json.member k j ms) h found =
      let i = readable j h.0 in
      let r = members_readable ms h.1 (put k i.0 found) in grind arith
