use Rattle.city_model.proofs.Prelude.{[], ◌∷◌, ◌++◌, drop, List, zip, Edge, ring_edges}
use Rattle.city_model.proofs.Noted.{Noted}
use Rattle.city_model.proofs.edges.push_ring.Given as goal

abbrev pub invariant-loop-point : goal.invariant-loop-point
invariant-loop-point l =
    let left : List Edge = zip (l.last ∷ drop l.point-index l.rest) (drop l.point-index l.rest ++ l.first ∷ []) in
    Noted l.fn.edges.up.items l.fn.edges.down.items (ring_edges l.ring) l.edges.up.items l.edges.down.items left
