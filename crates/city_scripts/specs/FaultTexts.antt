-- The texts of faults: number, name, and the script and the command in decimal.
use Rattle.std.specs.Prelude.{ℕ, List, ◌++◌, codes}
use Rattle.std.specs.Fmt.{decimal}
use Rattle.city_scripts.specs.declared.fault.ScriptFault.{ScriptFault}

abbrev pub script_fault_text : ScriptFault → List ℕ
script_fault_text ScriptFault.OutOfMemory = codes "out of memory"
script_fault_text ScriptFault.TooLong = codes "scripts: 1 TooLong"
script_fault_text ScriptFault.NotJson = codes "scripts: 2 NotJson"
script_fault_text ScriptFault.NotWhole = codes "scripts: 3 NotWhole"
script_fault_text ScriptFault.NotScripts = codes "scripts: 4 NotScripts"
script_fault_text (ScriptFault.BadScript n) = codes "scripts: 5 BadScript " ++ decimal n
script_fault_text ScriptFault.TooMany = codes "scripts: 6 TooMany"
script_fault_text (ScriptFault.BadCommand n i) =
    codes "scripts: 7 BadCommand " ++ decimal n ++ codes " " ++ decimal i
script_fault_text (ScriptFault.BadVertex n i) =
    codes "scripts: 8 BadVertex " ++ decimal n ++ codes " " ++ decimal i
