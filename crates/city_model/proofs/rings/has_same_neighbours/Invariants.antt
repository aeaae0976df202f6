use Rattle.city_model.proofs.Prelude.{◌≡◌, [], ◌∷◌, ◌++◌, drop, list_any, zip, ring_edges}
use Rattle.city_model.specs.Shells.{is_same_pair}
use Rattle.city_model.proofs.rings.has_same_neighbours.Given as goal

-- the answer for all edges is the answer for the rest
abbrev pub invariant-loop-point : goal.invariant-loop-point
invariant-loop-point l =
    list_any is_same_pair (ring_edges l.ring) ≡ list_any is_same_pair
    (zip (l.last ∷ drop l.point-index l.rest) (drop l.point-index l.rest ++ l.first ∷ []))
