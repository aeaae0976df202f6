use Rattle.city_tokens.proofs.Prelude.{◌≡◌, ◌++◌, into_iter_items, Entries, IsResolvedObject, points_of, Pairs}
use Rattle.city_tokens.proofs.resolve.resolve_objects.Given as goal

abbrev pub invariant-loop-id : goal.invariant-loop-id
invariant-loop-id l =
    (done : Entries) × (l.fn.unresolved.items ≡ done ++ into_iter_items l.id-iterator)
    × Pairs (IsResolvedObject (points_of l.vertices)) done l.resolved.items
