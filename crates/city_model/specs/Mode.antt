-- The modes of a lock.
use Rattle.std.specs.Prelude.{Bool, true, false}
use Rattle.city_model.specs.declared.mode.Mode.{Mode}
use Rattle.city_model.specs.declared.mode.Mode.TheVariants.{Shared, Exclusive}

abbrev pub is_exclusive : Mode → Bool
is_exclusive Shared = false
is_exclusive Exclusive = true
