-- Scripts that a text may have.
use Rattle.std.specs.Prelude.{◌≤◌, List, length}
use Rattle.std.specs.List.{AllByRecursion}
use Rattle.city_model.specs.Runs.{Scripted}
use Rattle.city_tokens.specs.script.Scripts.{max_scripts, max_commands}

-- the script isn't too long to be read
abbrev pub IsShort : Scripted → Type 0
IsShort s = length s.1 ≤ max_commands

-- there aren't too many scripts to be read, and none is too long
pub record AreFew (scripts : List Scripted) : Type 0 where
  pub number : length scripts ≤ max_scripts
  pub each : AllByRecursion IsShort scripts
