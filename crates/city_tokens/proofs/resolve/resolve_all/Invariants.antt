use Rattle.city_tokens.proofs.Prelude.{◌≡◌, ◌++◌, List, drop, take, IsResolved, points_of, Pairs}
use Rattle.city_tokens.proofs.resolve.resolve_all.Given as goal

abbrev pub invariant-loop-item : goal.invariant-loop-item
invariant-loop-item g l =
    (done : List g.row.T.Denot) × (l.item-items ≡ done ++ drop l.item-index l.initial.item-items)
    × Pairs (IsResolved g.T.ResolvePositions.stands (g.T.ResolvePositions.reads (points_of l.vertices)))
    (take l.item-index l.initial.item-items) done
