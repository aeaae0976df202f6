-- Trees with members or items, and trees of whole numbers: their parts are such trees.
use Rattle.city_tokens.proofs.Prelude.{◌≡◌, ℕ, List, Option, Some, Bool, true, false}
use Rattle.city_tokens.proofs.Prelude.{true≢false, None, refl, sym, ◌∙◌, arith, [], ◌∷◌, length, map}
use Rattle.city_tokens.proofs.Prelude.{Data, Members, put, array, object, Items}
use Rattle.city_tokens.proofs.Prelude.{no_items, item, get_member, get, length-map, list_all, view, items_of}
use Rattle.city_tokens.proofs.Prelude.{items_view, is_integral, items_integral, members_integral, array_of}
use Rattle.serde_json.specs.Find.{as_array, as_object}
use Rattle.std.proofs.lemmas.Bool.{and_from, and_parts}
use Rattle.serde_json.specs.declared.value.Value.{Value}
use Rattle.city_tokens.specs.tree.Lists.{items_list}
use Rattle.city_tokens.specs.script.Scripts.{count_of}
use Rattle.city_members.proofs.Puts.{all_put, all_found}

pub array_is : (d : Data) (ds : Items) → as_array d ≡ Some ds → d ≡ array ds
array_is d ds h = grind arith

pub object_is : (d : Data) (ms : Members) → as_object d ≡ Some ms → d ≡ object ms
object_is d ms h = grind arith

-- a tree with a member passing a test is an object, if an absent one fails the test
pub object_with : (test : Option Data → Bool) → test None ≡ false → (name : List ℕ) (d : Data)
    → test (get name d) ≡ true → (ms : Members) × (as_object d ≡ Some ms)
object_with test absent name (object ms) h = (ms, refl)
object_with test absent name _ h = absurd (true≢false (sym h ∙ absent))

pub items_list-of : (ds : List Data) → items_list (items_of ds) ≡ ds
items_list-of [] = refl
items_list-of (d ∷ ds) = rw (items_list-of ds)

-- how many items an array has
pub count_of-items : (d : Data) (vs : List Value) → as_array d ≡ Some (items_view vs)
    → count_of (array_of d) ≡ length vs
count_of-items d vs h = rw (h, items_list-of (map view vs), length-map vs view) refl

items_list-integral : (ds : Items) → items_integral ds ≡ true → list_all is_integral (items_list ds) ≡ true
items_list-integral no_items h = refl
items_list-integral (item d ds) h = grind (arith, items_list-integral ds)

-- the items of an array
pub array_of-integral : (d : Data) (ds : List Data) → is_integral d ≡ true → array_of d ≡ Some ds
    → list_all is_integral ds ≡ true
array_of-integral d ds h e = grind (arith, items_list-integral)

-- the members of an object
pub as_object-integral : (d : Data) (ms : Members) → is_integral d ≡ true → as_object d ≡ Some ms
    → members_integral ms ≡ true
as_object-integral d ms h e = rw (object_is d ms e) at h

pub get_member-integral : (k : List ℕ) (ms : Members) (d : Data) → members_integral ms ≡ true → get_member k ms ≡ Some d
    → is_integral d ≡ true
get_member-integral =
    all_found (λ d. is_integral d ≡ true) (λ ms. members_integral ms ≡ true) refl
    (λ k d ms. and_from (is_integral d) (members_integral ms))
    (λ k d ms. and_parts (is_integral d) (members_integral ms))

pub put-integral : (k : List ℕ) (d : Data) (ms : Members) → is_integral d ≡ true → members_integral ms ≡ true
    → members_integral (put k d ms) ≡ true
put-integral =
    all_put (λ d. is_integral d ≡ true) (λ ms. members_integral ms ≡ true) refl
    (λ k d ms. and_from (is_integral d) (members_integral ms))
    (λ k d ms. and_parts (is_integral d) (members_integral ms))

pub get-integral : (k : List ℕ) (d e : Data) → is_integral d ≡ true → get k d ≡ Some e → is_integral e ≡ true
get-integral k d e h at = grind (arith, get_member-integral)
