-- Levels, families, parents and children (CityJSON 2.0, section 2).
use Rattle.std.specs.Prelude.{◌≡◌, ◌==◌, ◌&&◌, ℕ, List, [], ◌∷◌, length, Bool, true, false, Option, Some}
use Rattle.std.specs.Prelude.{None}
use Rattle.std.specs.Str.{bytes_eq}
use Rattle.city_model.specs.declared.object.Object.{Object}
use Rattle.city_model.specs.declared.object_type.ObjectType.{ObjectType}
use Rattle.city_model.specs.Types.{family_of, level_of, name_of}
use Rattle.city_model.specs.CityMap.{CityMap, same_id, has_id, parents_of, children_of}
use Rattle.city_model.specs.Least.{IsLeast}
use Rattle.city_model.specs.Shells.{body_fault}

abbrev pub is_second_level : ObjectType → Bool
is_second_level kind = level_of kind == 2

abbrev pub same_type : ObjectType → ObjectType → Bool
same_type kind other = bytes_eq (name_of kind) (name_of other)

abbrev pub same_family : ObjectType → ObjectType → Bool
same_family kind other = same_type (family_of kind) (family_of other)

-- no id is there twice
abbrev pub AreDistinct : List (List ℕ) → Type 0
AreDistinct [] = Unit {0}
AreDistinct (id ∷ ids) = (has_id ids id ≡ false) × AreDistinct ids

-- the object of this id and its parents and children agree
pub record IsInOrder (m : CityMap) (id : List ℕ) (o : Object) : Type 0 where
  pub parents_once : AreDistinct o.parents
  pub children_once : AreDistinct o.children
  pub parents_know_it : (p : List ℕ) → has_id o.parents p ≡ true
      → (same_id p id ≡ false) × (has_id (children_of (m p)) id ≡ true)
  pub children_know_it : (d : List ℕ) → has_id o.children d ≡ true → has_id (parents_of (m d)) id ≡ true
  pub first_level : is_second_level o.body.kind ≡ false → o.parents ≡ []
  pub one_family : (p : List ℕ) (q : Object) → has_id o.parents p ≡ true → m p ≡ Some q
      → same_family q.body.kind o.body.kind ≡ true

-- second-level, and without a parent
abbrev pub is_orphan : Object → Bool
is_orphan o = is_second_level o.body.kind && (length o.parents == 0)

-- an orphan is there
abbrev pub is_orphan_there : Option Object → Bool
is_orphan_there None = false
is_orphan_there (Some o) = is_orphan o

abbrev pub IsRelated : CityMap → Type 0
IsRelated m = (id : List ℕ) (o : Object) → m id ≡ Some o → IsInOrder m id o × (is_orphan o ≡ false)

-- every object is in order, and every body is without fault
abbrev pub IsSound : CityMap → Type 0
IsSound m = (id : List ℕ) (o : Object) → m id ≡ Some o → IsInOrder m id o × (body_fault o.body ≡ None)

abbrev pub HasNoOrphan : CityMap → Type 0
HasNoOrphan m = (id : List ℕ) (o : Object) → m id ≡ Some o → is_orphan o ≡ false

abbrev pub IsLawful : CityMap → Type 0
IsLawful m = IsSound m × HasNoOrphan m

abbrev pub IsOrphanAt : CityMap → List ℕ → Type 0
IsOrphanAt m id = (o : Object) × (m id ≡ Some o) × (is_orphan o ≡ true)

abbrev pub IsLeastOrphan : CityMap → List ℕ → Type 0
IsLeastOrphan m id = IsLeast (IsOrphanAt m) id
