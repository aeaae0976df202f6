-- A sound map, by its relations: each parent of an object is allowed.
use Rattle.city_model.proofs.Prelude.{arith, ◌≡◌, ℕ, List, [], ◌∷◌, true, false, Option, Some, None, refl, false≢true}
use Rattle.city_model.proofs.Prelude.{Object, CityMap, same_id, has_id, parents_of, children_of, body_fault}
use Rattle.city_model.proofs.Prelude.{AreDistinct, same_family, IsSound}
use Rattle.city_model.specs.Relations.{is_second_level}
use Rattle.city_members.proofs.Ids.{same_id_itself}
use Rattle.city_model.proofs.Relatives.{Relatives, AreAgreed}

-- the object and this parent are there, of matching levels and families
pub record IsRightTie (m : CityMap) (id p : List ℕ) : Type 0 where
  pub child : Object
  pub parent : Object
  pub child_there : m id ≡ Some child
  pub parent_there : m p ≡ Some parent
  pub second_level : is_second_level child.body.kind ≡ true
  pub one_family : same_family parent.body.kind child.body.kind ≡ true

abbrev pub parents_in : CityMap → Relatives
parents_in m = λ q. parents_of (m q)

abbrev pub children_in : CityMap → Relatives
children_in m = λ q. children_of (m q)

abbrev pub AreInAgreement : CityMap → Type 0
AreInAgreement m = AreAgreed (parents_in m) (children_in m)

abbrev pub HasRightTies : CityMap → Type 0
HasRightTies m = (id p : List ℕ) → has_id (parents_of (m id)) p ≡ true → IsRightTie m id p

abbrev pub HasNoFault : CityMap → Type 0
HasNoFault m = (id : List ℕ) (o : Object) → m id ≡ Some o → body_fault o.body ≡ None

-- ---- from a sound map

relations_of : (m : CityMap) (id : List ℕ) (w : Option Object) → m id ≡ w → IsSound m
    → AreDistinct (parents_of w) × AreDistinct (children_of w)
    × ((p : List ℕ) → has_id (parents_of w) p ≡ true → (same_id p id ≡ false) × (has_id (children_in m p) id ≡ true))
    × ((d : List ℕ) → has_id (children_of w) d ≡ true → has_id (parents_in m d) id ≡ true)
relations_of m id None is s = (tt, tt, λ p h. absurd (false≢true h), λ d h. absurd (false≢true h))
relations_of m id (Some o) is s =
    let i = (s id o is).0 in (i.parents_once, i.children_once, i.parents_know_it, i.children_know_it)

pub sound_agrees : (m : CityMap) → IsSound m → AreInAgreement m
sound_agrees m s = record {
  parents_once = λ id. (relations_of m id (m id) refl s).0;
  children_once = λ id. (relations_of m id (m id) refl s).1;
  parents_know_it = λ id. (relations_of m id (m id) refl s).2;
  children_know_it = λ id. (relations_of m id (m id) refl s).3;
}

-- the lists of a child and of a parent say the same
pub parent_and_child : (m : CityMap) (child parent : List ℕ) (o p : Object) → IsSound m → m child ≡ Some o
    → m parent ≡ Some p → has_id o.parents parent ≡ has_id p.children child
parent_and_child m child parent o p s below above = grind (arith, s child o below, s parent p above)

tie : (m : CityMap) (id p : List ℕ) (w v : Option Object) → m id ≡ w → m p ≡ v → IsSound m
    → has_id (parents_of w) p ≡ true → has_id (children_of v) id ≡ true → IsRightTie m id p
tie m id p w v is at s h k = grind (arith, s id)

pub sound_has_right_ties : (m : CityMap) → IsSound m → HasRightTies m
sound_has_right_ties m s id p h = tie m id p (m id) (m p) refl refl s h ((sound_agrees m s).parents_know_it id p h).1

-- ---- to a sound map

-- an object in both maps has one type
abbrev pub SameKinds : CityMap → CityMap → Type 0
SameKinds m n = (id : List ℕ) (o q : Object) → m id ≡ Some o → n id ≡ Some q → q.body.kind ≡ o.body.kind

nothing_in : (ids : List (List ℕ)) → ((p : List ℕ) → has_id ids p ≡ true → ⊥) → ids ≡ []
nothing_in [] f = refl
nothing_in (x ∷ xs) f = absurd (f x (grind (arith, same_id_itself x)))

-- the relations of the second map are allowed by the objects of the first
abbrev pub HasTiesOf : CityMap → CityMap → Type 0
HasTiesOf m n = (id p : List ℕ) → has_id (parents_of (n id)) p ≡ true → IsRightTie m id p

no_parents : (m n : CityMap) → SameKinds m n → HasTiesOf m n → (id : List ℕ) (o : Object) → n id ≡ Some o
    → is_second_level o.body.kind ≡ false → o.parents ≡ []
no_parents m n kinds ties id o is first = nothing_in o.parents (λ p h.
    let t = ties id p (rw is h) in grind (arith, kinds id t.child o t.child_there is, t.second_level))

family : (m n : CityMap) → SameKinds m n → HasTiesOf m n → (id p : List ℕ) (o q : Object) → n id ≡ Some o → n p ≡ Some q
    → has_id o.parents p ≡ true → same_family q.body.kind o.body.kind ≡ true
family m n kinds ties id p o q is at h =
    let t = ties id p (rw is h) in
    rw (kinds p t.parent q t.parent_there at, kinds id t.child o t.child_there is) t.one_family

-- a map is sound if its parents and children agree, and its relations are allowed by another map of the same types
pub sound_by_ties : (m n : CityMap) → SameKinds m n → HasTiesOf m n → AreInAgreement n → HasNoFault n → IsSound n
sound_by_ties m n kinds ties a faultless id o is =
    grind (arith, no_parents m n kinds ties id o is, family m n kinds ties id, faultless id o is)
