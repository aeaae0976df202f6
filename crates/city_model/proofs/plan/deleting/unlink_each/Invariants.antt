use Rattle.city_model.proofs.Prelude.{◌≡◌, ◌++◌, map, ids_left, unlinked}
use Rattle.city_model.proofs.plan.deleting.unlink_each.Given as goal

-- the writes so far, with the rest
abbrev pub invariant-loop-parent : goal.invariant-loop-parent
invariant-loop-parent g l =
    l.writes ++ map (unlinked (g.V.ObjectLookup.map l.view) l.child) (ids_left l.parent-iterator)
    ≡ l.initial.writes ++ map (unlinked (g.V.ObjectLookup.map l.view) l.child) (ids_left l.fn.parents)
