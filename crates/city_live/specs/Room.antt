-- Room for what is kept for a journal.
use Rattle.std.specs.Prelude.{◌<◌, Option, None, Some, vec_len, vec_capacity}
use Rattle.std.specs.Global.{Vec}
use Rattle.city_model.specs.Runs.{Scripted}

-- there is room for one more, if any are kept
abbrev pub HasRoomForOne : Option (Vec Scripted) → Type 0
HasRoomForOne None = Unit {0}
HasRoomForOne (Some v) = vec_len v < vec_capacity v
