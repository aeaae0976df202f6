use Rattle.std.specs.Prelude.{◌≡◌, ◌++◌}
use Rattle.std.specs.Vec.Iter.{into_iter_items}
use Rattle.city_live.specs.Serving.{AreHandled}
use Rattle.city_live.proofs.hands.Hands.handle_all.Given as goal

abbrev pub invariant-loop-hand : goal.invariant-loop-hand
invariant-loop-hand g l =
    AreHandled l.yielded l.all.items l.fn.self l.self
    × (l.yielded ++ into_iter_items l.hand-iterator ≡ l.fn.requests.items)
