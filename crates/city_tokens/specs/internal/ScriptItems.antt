-- Scripts, each read of its own item of the array.
use Rattle.std.specs.Prelude.{length, nat_lt, Bool, Option, None, option_and_then, if◌then◌else◌}
use Rattle.serde_json.specs.Data.{Data}
use Rattle.city_tokens.specs.script.Scripts.{ScriptParts, parts_of, script_of, max_commands}
use Rattle.city_model.specs.Runs.{Scripted}

-- a script has too many commands
abbrev pub has_too_many_commands : ScriptParts → Bool
has_too_many_commands p = nat_lt max_commands (length p.commands)

abbrev pub fit_script_of : ScriptParts → Option Scripted
fit_script_of p = if has_too_many_commands p then None else script_of p

-- the script of one item of an array
abbrev pub script_of_item : Data → Option Scripted
script_of_item d = option_and_then fit_script_of (parts_of d)
