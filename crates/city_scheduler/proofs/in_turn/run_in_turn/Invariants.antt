use Rattle.city_scheduler.proofs.Prelude.{HaveRun}
use Rattle.city_scheduler.proofs.in_turn.run_in_turn.Given as goal

abbrev pub invariant-loop-n : goal.invariant-loop-n
invariant-loop-n g l = HaveRun l.initial.desk.0 l.n l.desk.0
