use Rattle.city_model.proofs.Noted.{noted_point}
use Rattle.city_model.proofs.edges.push_ring.Goals as goal

pub loop-point-preserved : goal.loop-point-preserved
loop-point-preserved c =
    noted_point c.loop-point.last _ _ _ c.loop-point.point-index _ _ c.loop-point-test.true c.loop-point.invariant
    c.in_ok-push.ensures.up c.in_ok-push.ensures.down
