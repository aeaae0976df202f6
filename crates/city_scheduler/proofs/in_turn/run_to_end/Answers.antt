use Rattle.city_scheduler.proofs.AloneRun.{replied_fewer}
use Rattle.city_scheduler.proofs.in_turn.run_to_end.Goals as goal

pub loop-smaller : goal.loop-smaller
loop-smaller g c =
    replied_fewer c.args.n c.loop.desk.0 c.turn.new.self.0 c.turn.ensures.turned.keeps
    (rw c.in-Replied.is at c.turn.ensures.turned.so)
