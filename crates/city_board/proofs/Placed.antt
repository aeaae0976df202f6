-- Places in a city for ids about to be written.
use Rattle.city_board.proofs.Prelude.{◌≡◌, ℕ, ◌<◌, List, [], ◌∷◌, ◌++◌, length, Bool, true, false, ◌&&◌, ◌||◌, not}
use Rattle.city_board.proofs.Prelude.{Option, None, Some, is_some, arith, if◌then◌else◌, CityMap, same_id, has_id}
use Rattle.city_board.proofs.Prelude.{changed, changed_apart, changed_there, same_id_back}
use Rattle.std.proofs.Common.{get_or}
use Rattle.std.proofs.lemmas.List.Folds.{list_any-append, list_any_at}
use Rattle.city_model.specs.declared.object.Object.{Object}
use Rattle.city_members.proofs.Ids.{same_id_true}

-- an id outside a list is none of its ids
pub apart_from : (ids : List (List ℕ)) (n : ℕ) (id q : List ℕ) → n < length ids → id ≡ get_or ids n id
    → has_id ids q ≡ false → same_id id q ≡ false
apart_from ids n id q lt is h = grind (arith, list_any_at (same_id q) ids n id lt, same_id_back id q)

-- ---- ids without a place

-- an id without a place was listed
pub missing_more : (m : CityMap) (all : Bool) (ids rest : List (List ℕ)) (id q : List ℕ) → is_some (m id) ≡ false
    → all ≡ (has_id ids q || (has_id (id ∷ rest) q && not (is_some (m q))))
    → all ≡ (has_id (ids ++ id ∷ []) q || (has_id rest q && not (is_some (m q))))
missing_more m all ids rest id q absent h = grind (arith, list_any-append (same_id q) ids (id ∷ []), same_id_true q id)

-- an id with a place was passed over
pub missing_same : (m : CityMap) (all : Bool) (ids rest : List (List ℕ)) (id q : List ℕ) → is_some (m id) ≡ true
    → all ≡ (has_id ids q || (has_id (id ∷ rest) q && not (is_some (m q))))
    → all ≡ (has_id ids q || (has_id rest q && not (is_some (m q))))
missing_same m all ids rest id q there h = grind (arith, same_id_true q id)

-- ---- places made and taken out

-- one more id has a place
pub filled_more : (m n : CityMap) (o : Object) (a : Bool) (id q : List ℕ) → n q ≡ changed m id (Some o) q
    → (a ≡ true → is_some (m q) ≡ true) → (a || same_id id q) ≡ true → is_some (n q) ≡ true
filled_more m n o a id q is before h = grind (arith, changed_there m id (Some o) q, changed_apart m id (Some o) q)

-- one more id was taken out
pub cleared_more : (x y : Option Object) (z : Option Object) (a b : Bool) → y ≡ (if a then None else x)
    → z ≡ (if b then None else y) → z ≡ (if a || b then None else x)
cleared_more x y z a b p q = grind arith

-- places made in part are taken out again
pub put_back : (x y z : Option Object) (ids keys : Bool) → ids ≡ (keys && not (is_some x)) → (ids ≡ false → y ≡ x)
    → z ≡ (if ids then None else y) → z ≡ x
put_back x y z ids keys is f h = grind arith

-- each id to write has a place
pub placed : (x y : Option Object) (ids keys : Bool) → ids ≡ (keys && not (is_some x)) → (ids ≡ false → y ≡ x)
    → (ids ≡ true → is_some y ≡ true) → keys ≡ true → is_some y ≡ true
placed x y ids keys is f g h = grind arith
