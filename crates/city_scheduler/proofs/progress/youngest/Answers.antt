use Rattle.city_scheduler.proofs.Prelude.{arith}
use Rattle.city_scheduler.proofs.Youngest.{youngest_of_all}
use Rattle.city_scheduler.proofs.progress.youngest.Goals as goal

pub returns : goal.returns
returns c =
    youngest_of_all c.args.progress.now c.loop-n.found c.loop-n.youngest c.loop-n.n (omega arith) c.loop-n.invariant
