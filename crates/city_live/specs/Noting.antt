-- Commits as a journal notes them.
use Rattle.std.specs.Prelude.{◌++◌, ℕ, List, [], ◌∷◌, Option, None, Some, slice_get}
use Rattle.city_model.specs.declared.command.Command.{Command}
use Rattle.city_model.specs.Runs.{Scripted}

-- a commit: its hand, the name of its script or transaction, the version after it, and its commands, its end among them
pub record Noted : Type 0 where
  pub by : List ℕ
  pub name : List ℕ
  pub version : ℕ
  pub commands : List Command

abbrev pub or_no_command : Option Command → List Command
or_no_command None = []
or_no_command (Some c) = c ∷ []

-- the first command of each
abbrev pub firsts : List Scripted → List Command
firsts [] = []
firsts (s ∷ ss) = or_no_command (slice_get s.1 0) ++ firsts ss
