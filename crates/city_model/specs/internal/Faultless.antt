-- Bodies without fault.
use Rattle.std.specs.Prelude.{◌≡◌, ℕ, List, Some, None}
use Rattle.city_model.specs.declared.object.Object.{Object}
use Rattle.city_model.specs.CityMap.{CityMap}
use Rattle.city_model.specs.Shells.{body_fault}

-- no body of the map has a fault
abbrev pub IsFaultless : CityMap → Type 0
IsFaultless m = (id : List ℕ) (o : Object) → m id ≡ Some o → body_fault o.body ≡ None
