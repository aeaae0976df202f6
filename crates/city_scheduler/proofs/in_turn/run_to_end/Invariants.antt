use Rattle.city_scheduler.proofs.Prelude.{phase_of, replies_of}
use Rattle.city_scheduler.proofs.AloneRun.{IsRunning, turns_left}
use Rattle.city_scheduler.proofs.in_turn.run_to_end.Given as goal

abbrev pub invariant-loop : goal.invariant-loop
invariant-loop g l = IsRunning l.n l.initial.desk.0 l.desk.0

abbrev pub decreases-loop : goal.decreases-loop
decreases-loop g l = turns_left l.desk.0.scripts l.n (phase_of l.desk.0 l.n) (replies_of l.desk.0 l.n)
