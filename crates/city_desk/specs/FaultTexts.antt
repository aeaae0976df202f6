-- The text of each fault of a run.
use Rattle.std.specs.Prelude.{ℕ, List, codes}
use Rattle.city_doc.specs.FaultTexts.{read_fault_text}
use Rattle.city_scripts.specs.FaultTexts.{script_fault_text}
use Rattle.city_desk.specs.declared.fault.RunFault.{RunFault}

abbrev pub run_fault_text : RunFault → List ℕ
run_fault_text (RunFault.Read f) = read_fault_text f
run_fault_text (RunFault.Script f) = script_fault_text f
run_fault_text RunFault.OutOfMemory = codes "out of memory"
run_fault_text RunFault.NoPlace = codes "no viewer place"
run_fault_text RunFault.Unfinished = codes "unfinished"
run_fault_text RunFault.Mixed = codes "mixed"
