use Rattle.city_model.proofs.Prelude.{◌≡◌, drop, list_any}
use Rattle.city_model.specs.Shells.{has_same_neighbours}
use Rattle.city_model.proofs.rings.any_same_ring.Given as goal

abbrev pub invariant-loop-ring : goal.invariant-loop-ring
invariant-loop-ring l =
    list_any has_same_neighbours l.rings ≡ list_any has_same_neighbours (drop l.ring-index l.rings)
