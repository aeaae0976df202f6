use Rattle.city_locks.proofs.Prelude.{◌≡◌, drop, mode_among}
use Rattle.city_locks.proofs.holders.Holders.mode.Given as goal

abbrev pub invariant-loop-holder : goal.invariant-loop-holder
invariant-loop-holder l = mode_among (drop l.holder-index l.holder-items) l.stamp ≡ mode_among l.self l.stamp
