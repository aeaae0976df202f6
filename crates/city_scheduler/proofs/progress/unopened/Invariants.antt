use Rattle.city_scheduler.proofs.Prelude.{◌≡◌, ◌<◌, ℕ, false, phase_in}
use Rattle.city_scheduler.specs.internal.Ready.{is_unopened}
use Rattle.city_scheduler.proofs.progress.unopened.Given as goal

abbrev pub invariant-loop-n : goal.invariant-loop-n
invariant-loop-n l = (k : ℕ) → k < l.n → is_unopened (phase_in l.progress k) ≡ false
