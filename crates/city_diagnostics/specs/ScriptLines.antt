-- The content of the line of a fault of scripts.
use Rattle.std.specs.Prelude.{ℕ, List, codes}
use Rattle.serde_json.specs.Data.{Data}
use Rattle.city_scripts.specs.declared.fault.ScriptFault.{ScriptFault}
use Rattle.city_scripts.specs.declared.fault.ScriptFault.TheVariants.{OutOfMemory, TooLong, NotJson, NotWhole}
use Rattle.city_scripts.specs.declared.fault.ScriptFault.TheVariants.{NotScripts, BadScript, TooMany, BadCommand}
use Rattle.city_scripts.specs.declared.fault.ScriptFault.TheVariants.{BadVertex}
use Rattle.city_scripts.specs.AllFaults.{rank_of}
use Rattle.city_diagnostics.specs.Lines.{HasNumber, TellsFault}

abbrev pub script_name_of : ScriptFault → List ℕ
script_name_of OutOfMemory = codes "OutOfMemory"
script_name_of TooLong = codes "TooLong"
script_name_of NotJson = codes "NotJson"
script_name_of NotWhole = codes "NotWhole"
script_name_of NotScripts = codes "NotScripts"
script_name_of (BadScript n) = codes "BadScript"
script_name_of TooMany = codes "TooMany"
script_name_of (BadCommand n i) = codes "BadCommand"
script_name_of (BadVertex n i) = codes "BadVertex"

-- the script and the command are told
abbrev pub TellsPlace : ℕ → ℕ → Data → Type 0
TellsPlace n i d = HasNumber (codes "script") n d × HasNumber (codes "command") i d

-- the details of the fault are told
abbrev pub TellsNamed : ScriptFault → Data → Type 0
TellsNamed OutOfMemory d = Unit {0}
TellsNamed TooLong d = Unit {0}
TellsNamed NotJson d = Unit {0}
TellsNamed NotWhole d = Unit {0}
TellsNamed NotScripts d = Unit {0}
TellsNamed (BadScript n) d = HasNumber (codes "script") n d
TellsNamed TooMany d = Unit {0}
TellsNamed (BadCommand n i) d = TellsPlace n i d
TellsNamed (BadVertex n i) d = TellsPlace n i d

-- the fault of scripts is told
pub record TellsScript (f : ScriptFault) (d : Data) : Type 0 where
  pub fault : TellsFault (codes "scripts") (rank_of f) (script_name_of f) d
  pub named : TellsNamed f d
