-- The faults of a text as faults of a text of scripts.
use Rattle.city_doc.specs.declared.tree.parse.TextFault.{TextFault}
use Rattle.city_doc.specs.declared.tree.parse.TextFault.TheVariants.{OutOfMemory, TooLong, NotJson, NotWhole}
use Rattle.city_scripts.specs.declared.fault.ScriptFault.{ScriptFault}

abbrev pub script_fault : TextFault → ScriptFault
script_fault OutOfMemory = ScriptFault.OutOfMemory
script_fault TooLong = ScriptFault.TooLong
script_fault NotJson = ScriptFault.NotJson
script_fault NotWhole = ScriptFault.NotWhole
