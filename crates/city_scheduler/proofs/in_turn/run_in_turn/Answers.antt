use Rattle.city_scheduler.proofs.Prelude.{arith}
use Rattle.city_scheduler.proofs.AloneRun.{one_more_run}
use Rattle.city_scheduler.proofs.in_turn.run_in_turn.Goals as goal

pub loop-n-preserved : goal.loop-n-preserved
loop-n-preserved g c =
    one_more_run _ c.loop-n.desk.0 c.run_to_end.new.desk.0 c.loop-n.n (omega arith) c.loop-n.invariant
    c.run_to_end.ensures
