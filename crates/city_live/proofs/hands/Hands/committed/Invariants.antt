use Rattle.std.specs.Prelude.{◌≡◌, ◌++◌, All, map}
use Rattle.std.specs.Vec.Iter.{into_iter_items}
use Rattle.city_txn.specs.CoreState.{committed}
use Rattle.city_live.proofs.hands.Hands.committed.Given as goal

abbrev pub invariant-loop-id : goal.invariant-loop-id
invariant-loop-id g l =
    All (λ o. o.1 ≡ committed l.self.session.core o.0) l.objects
    × (map (λ o. o.0) l.objects ++ into_iter_items l.id-iterator ≡ l.fn.ids)
