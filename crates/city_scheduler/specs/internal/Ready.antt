-- The ready script of a list, by the progress of each.
use Rattle.std.specs.Prelude.{◌≡◌, ◌≤◌, ◌<◌, ℕ, Bool, true, false, List}
use Rattle.city_scheduler.specs.declared.progress.Progress.{Progress}
use Rattle.city_scheduler.specs.declared.progress.Phase.{Phase}
use Rattle.city_scheduler.specs.declared.progress.Phase.TheVariants.{NotBegun, Idle, Open, Ended}
use Rattle.city_scheduler.specs.DeskState.{phase_in}

-- neither ended nor with an open transaction
abbrev pub is_unopened : Phase → Bool
is_unopened NotBegun = true
is_unopened (Idle stamp) = true
is_unopened (Open stamp since) = false
is_unopened Ended = false

-- its transaction is open, with this stamp, and none before the place is younger
pub record IsYoungestBelow (progress : List Progress) (place n stamp : ℕ) : Type 0 where
  pub since : ℕ
  pub is : phase_in progress n ≡ Open stamp since
  pub youngest : (k other began : ℕ) → k < place → phase_in progress k ≡ Open other began → other ≤ stamp

-- its transaction is open, and none is younger
pub record IsYoungest (progress : List Progress) (n : ℕ) : Type 0 where
  pub stamp : ℕ
  pub since : ℕ
  pub is : phase_in progress n ≡ Open stamp since
  pub youngest : (k other began : ℕ) → phase_in progress k ≡ Open other began → other ≤ stamp
