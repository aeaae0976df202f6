use Rattle.city_live.proofs.Names.{told_step}
use Rattle.city_live.proofs.watchers.Watchers.tell.Goals as goal

pub loop-hand-preserved : goal.loop-hand-preserved
loop-hand-preserved c = told_step c.in-Some.ensures.steps c.loop-hand.invariant c.tell.ensures
