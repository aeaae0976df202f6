-- A core with its transactions given up.
use Rattle.std.specs.Prelude.{◌≡◌, ◌≤◌, ℕ, true, List}
use Rattle.city_txn.specs.CoreState.{CoreState, committed, is_open}
use Rattle.city_scheduler.specs.declared.progress.Progress.{Progress}
use Rattle.city_scheduler.specs.declared.progress.Phase.TheVariants.{Open}
use Rattle.city_scheduler.specs.DeskState.{phase_in}

-- the committed city stays
pub record KeepsCity (v w : CoreState) : Type 0 where
  pub frame : w.frame ≡ v.frame
  pub city : committed w ≡ committed v

-- each open transaction belongs to a script from this place on
abbrev pub AreOpenFrom : ℕ → List Progress → CoreState → Type 0
AreOpenFrom place progress v = (stamp : ℕ) → is_open v stamp ≡ true
    → (k : ℕ) × (since : ℕ) × (place ≤ k) × (phase_in progress k ≡ Open stamp since)
