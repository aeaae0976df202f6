use Rattle.city_diagnostics.proofs.Prelude.{AreLinesOf, Tells, take}
use Rattle.city_diagnostics.proofs.check.document_lines.Given as goal

abbrev pub invariant-loop-fault : goal.invariant-loop-fault
invariant-loop-fault l = AreLinesOf Tells (take l.fault-index l.faults) l.lines.items
