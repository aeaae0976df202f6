use Rattle.city_scheduler.proofs.Prelude.{◌≡◌, take, names_of}
use Rattle.city_scheduler.proofs.desk.names_of.Given as goal

abbrev pub invariant-loop-script : goal.invariant-loop-script
invariant-loop-script l = l.names.items ≡ names_of (take l.script-index l.scripts)
