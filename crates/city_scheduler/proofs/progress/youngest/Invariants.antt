use Rattle.city_scheduler.proofs.Prelude.{◌≡◌, ◌<◌, ℕ, false, MatchOption, phase_in, is_open_phase, IsYoungestBelow}
use Rattle.city_scheduler.proofs.progress.youngest.Given as goal

abbrev pub invariant-loop-n : goal.invariant-loop-n
invariant-loop-n l =
    MatchOption l.found ((k : ℕ) → k < l.n → is_open_phase (phase_in l.progress k) ≡ false)
    (λ m. (m < l.n) × IsYoungestBelow l.progress l.n m l.youngest)
