use Rattle.city_diagnostics.proofs.Prelude.{AreLinesOf, take}
use Rattle.city_diagnostics.specs.ScriptLines.{TellsScript}
use Rattle.city_diagnostics.proofs.check.scripts.script_lines.Given as goal

abbrev pub invariant-loop-fault : goal.invariant-loop-fault
invariant-loop-fault l = AreLinesOf TellsScript (take l.fault-index l.faults) l.lines.items
