-- Objects with bodies judged as they were resolved.
use Rattle.std.specs.Prelude.{◌≡◌, None}
use Rattle.std.specs.List.{AllByRecursion}
use Rattle.city_model.specs.CityMap.{Entries}
use Rattle.city_model.specs.Shells.{body_fault}

-- no body of the entries has a fault
abbrev pub AreFaultless : Entries → Type 0
AreFaultless es = AllByRecursion (λ e. body_fault e.1.body ≡ None) es
