use Rattle.city_live.specs.Serving.{Follows}
use Rattle.city_live.proofs.hands.Hands.wake.Given as goal

abbrev pub invariant-loop-tries : goal.invariant-loop-tries
invariant-loop-tries g l = Follows l.fn.self l.self
