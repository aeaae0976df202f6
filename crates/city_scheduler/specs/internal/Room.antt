-- The room made at a desk's opening for everything still to come.
use Rattle.std.specs.Prelude.{◌≡◌, ◌≤◌, ◌<◌, ◌+◌, ℕ, Bool, true, false, List, [], length}
use Rattle.std.specs.Prelude.{count_by, map, slice_index_or}
use Rattle.city_model.specs.Runs.{Scripted}
use Rattle.city_scheduler.specs.declared.progress.Progress.{Progress}
use Rattle.city_scheduler.specs.declared.progress.Phase.{Phase}
use Rattle.city_scheduler.specs.declared.progress.Phase.TheVariants.{NotBegun, Idle, Open, Ended}
use Rattle.city_scheduler.specs.DeskState.{DeskState, phase_in, room_in, is_ended}
use Rattle.city_scheduler.specs.internal.ScriptParts.{commands_at, name_at}

abbrev pub names_of : List Scripted → List (List ℕ)
names_of scripts = map (λ script. script.0) scripts

abbrev pub is_not_begun : Phase → Bool
is_not_begun NotBegun = true
is_not_begun (Idle stamp) = false
is_not_begun (Open stamp since) = false
is_not_begun Ended = false

abbrev pub ended_in : List Progress → ℕ
ended_in progress = count_by (λ p. is_ended p.phase) progress

abbrev pub not_begun_in : List Progress → ℕ
not_begun_in progress = count_by (λ p. is_not_begun p.phase) progress

-- for each unended script, a copy of its name and room for its replies; places for all ends, and stamps for all
-- scripts
pub record HasRoom (d : DeskState) (names : List (List ℕ)) (capacity : ℕ) : Type 0 where
  pub named : (n : ℕ) → n < length d.scripts → is_ended (phase_in d.progress n) ≡ false
      → slice_index_or names n [] ≡ name_at d.scripts n
  pub replies : (n : ℕ) → n < length d.scripts → is_ended (phase_in d.progress n) ≡ false
      → room_in d.progress n ≡ length (commands_at d.scripts n)
  pub names_long : length names ≡ length d.scripts
  pub each_once : length d.ends ≡ ended_in d.progress
  pub stamps : d.begun + not_begun_in d.progress ≤ length d.scripts
  pub places : length d.scripts ≤ capacity
