-- Faults in the relations of a map (CityJSON 2.0, section 2).
use Rattle.std.specs.Prelude.{◌≡◌, ◌⊎◌, ℕ, List, true, Some}
use Rattle.city_model.specs.declared.object.Object.{Object}
use Rattle.city_model.specs.CityMap.{CityMap}
use Rattle.city_model.specs.Least.{IsLeast}
use Rattle.city_model.specs.Relations.{IsInOrder, is_orphan}

-- an object of this id isn't in order, or is an orphan
abbrev pub IsMisrelatedAt : CityMap → List ℕ → Type 0
IsMisrelatedAt m id = (o : Object) × (m id ≡ Some o) × ((IsInOrder m id o → ⊥) ⊎ (is_orphan o ≡ true))

abbrev pub IsLeastMisrelated : CityMap → List ℕ → Type 0
IsLeastMisrelated m id = IsLeast (IsMisrelatedAt m) id
