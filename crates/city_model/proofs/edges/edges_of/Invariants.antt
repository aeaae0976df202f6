use Rattle.city_model.proofs.Prelude.{[], drop, edges_of}
use Rattle.city_model.proofs.Noted.{Noted}
use Rattle.city_model.proofs.edges.edges_of.Given as goal

abbrev pub invariant-loop-surface : goal.invariant-loop-surface
invariant-loop-surface l =
    Noted [] [] (edges_of l.surfaces) l.edges.up.items l.edges.down.items (edges_of (drop l.surface-index l.surfaces))
