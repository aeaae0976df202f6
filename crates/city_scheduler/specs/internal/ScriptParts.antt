-- The commands and the name of a script; empty if there is no such script.
use Rattle.std.specs.Prelude.{ℕ, List, [], Option, None, Some, slice_get}
use Rattle.city_model.specs.declared.command.Command.{Command}
use Rattle.city_model.specs.Runs.{Scripted}

abbrev pub commands_of : Option Scripted → List Command
commands_of None = []
commands_of (Some s) = s.1

abbrev pub commands_at : List Scripted → ℕ → List Command
commands_at scripts n = commands_of (slice_get scripts n)

abbrev pub name_in : Option Scripted → List ℕ
name_in None = []
name_in (Some s) = s.0

abbrev pub name_at : List Scripted → ℕ → List ℕ
name_at scripts n = name_in (slice_get scripts n)
