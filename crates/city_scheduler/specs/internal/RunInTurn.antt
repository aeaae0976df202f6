-- A desk with its scripts run one after the other in their order.
use Rattle.std.specs.Prelude.{◌≡◌, ◌≢◌, ◌≤◌, ◌<◌, ℕ, true, false, [], ◌∷◌, ◌++◌, length}
use Rattle.city_model.specs.declared.end.End.{End}
use Rattle.city_model.specs.Runs.{has_end}
use Rattle.city_scheduler.specs.declared.progress.Phase.TheVariants.{NotBegun, Ended}
use Rattle.city_scheduler.specs.DeskState.{DeskState, phase_of, is_open_phase}
use Rattle.city_scheduler.specs.InTurn.{AreInTurn}
use Rattle.city_scheduler.specs.Turning.{Keeps}

-- script n was run to its end, now the last; it began when the ends before it were there
pub record HasRun (n : ℕ) (d e : DeskState) : Type 0 where
  pub keeps : Keeps d e
  pub last : End
  pub script : last.script ≡ n
  pub since : last.since ≡ length d.ends
  pub ends : e.ends ≡ d.ends ++ last ∷ []
  pub over : phase_of e n ≡ Ended
  pub beside : (k : ℕ) → k ≢ n → phase_of e k ≡ phase_of d k

-- the first n scripts were run in turn, and the others haven't begun
pub record HaveRun (start : DeskState) (n : ℕ) (d : DeskState) : Type 0 where
  pub keeps : Keeps start d
  pub in_turn : AreInTurn 0 d.ends
  pub so_many : length d.ends ≡ n
  pub ended : (k : ℕ) → k < n → has_end k d.ends ≡ true
  pub left : (k : ℕ) → n ≤ k → k < length d.scripts → phase_of d k ≡ NotBegun
  pub none_open : (k : ℕ) → is_open_phase (phase_of d k) ≡ false
