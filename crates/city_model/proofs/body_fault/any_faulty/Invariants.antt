use Rattle.city_model.proofs.Prelude.{◌≡◌, drop, list_any}
use Rattle.city_model.specs.internal.RingFaults.{has_ring_fault}
use Rattle.city_model.proofs.body_fault.any_faulty.Given as goal

abbrev pub invariant-loop-g : goal.invariant-loop-g
invariant-loop-g l =
    list_any (λ g. has_ring_fault l.fault g.shape) l.geometry ≡ list_any (λ g. has_ring_fault l.fault g.shape)
    (drop l.g-index l.geometry)
