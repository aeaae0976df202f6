use Rattle.city_scheduler.proofs.Prelude.{KeepsCity}
use Rattle.city_scheduler.specs.internal.Closing.{AreOpenFrom}
use Rattle.city_scheduler.proofs.desk.roll_back_all.Given as goal

abbrev pub invariant-loop-script : goal.invariant-loop-script
invariant-loop-script l =
    record { keeps : KeepsCity l.initial.core l.core; opened : AreOpenFrom l.script-index l.progress l.core }
