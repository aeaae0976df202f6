-- The stronger of two modes of a lock.
use Rattle.std.specs.Prelude.{Option, None, Some}
use Rattle.city_model.specs.declared.mode.Mode.{Mode}
use Rattle.city_model.specs.declared.mode.Mode.TheVariants.{Shared, Exclusive}

-- the stronger of the mode asked for and the mode held
abbrev pub stronger : Mode → Option Mode → Mode
stronger mode None = mode
stronger Exclusive (Some held) = Exclusive
stronger Shared (Some held) = held
