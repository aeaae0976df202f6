-- The value of a shared value.
use Rattle.std.specs.Arc.{arc_value}
use Rattle.city_members.specs.declared.shared.Storage.{Storage}
use Rattle.city_members.specs.declared.shared.Storage.TheVariants.{Own, Shared}

abbrev pub stored : {T : Type 0} → Storage T → T
stored (Own value) = value
stored (Shared value) = arc_value value
