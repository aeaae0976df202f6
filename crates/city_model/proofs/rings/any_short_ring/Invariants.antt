use Rattle.city_model.proofs.Prelude.{◌≡◌, drop, list_any}
use Rattle.city_model.specs.Shells.{is_short_ring}
use Rattle.city_model.proofs.rings.any_short_ring.Given as goal

abbrev pub invariant-loop-ring : goal.invariant-loop-ring
invariant-loop-ring l =
    list_any is_short_ring l.rings ≡ list_any is_short_ring (drop l.ring-index l.rings)
