-- A desk as contracts see it: its opening city and scripts, the ends so far, the progress of each script, and its
-- core.
use Rattle.std.specs.Prelude.{ℕ, Bool, true, false, List, [], Option, None, Some, slice_get, slice_index_or}
use Rattle.std.specs.Prelude.{option_and_then}
use Rattle.city_model.specs.declared.command.Command.{Command}
use Rattle.city_model.specs.declared.command.Reply.{Reply}
use Rattle.city_model.specs.declared.end.End.{End}
use Rattle.city_model.specs.Runs.{Scripted}
use Rattle.city_txn.specs.CoreState.{CoreState}
use Rattle.city_model.specs.CityMap.{CityValue}
use Rattle.city_scheduler.specs.declared.progress.Progress.{Progress}
use Rattle.city_scheduler.specs.declared.progress.Phase.{Phase}
use Rattle.city_scheduler.specs.declared.progress.Phase.TheVariants.{NotBegun, Idle, Open, Ended}

pub record DeskState : Type 0 where
  -- the opening city
  pub start : CityValue
  pub scripts : List Scripted
  -- the ends, oldest first
  pub ends : List End
  -- the number of scripts handed out
  pub taken : ℕ
  -- the number of scripts begun
  pub begun : ℕ
  -- the progress of each script
  pub progress : List Progress
  pub core : CoreState

-- the progress of a script in this phase, with these replies and room for so many
abbrev pub progress_to : Phase → List Reply → ℕ → Progress
progress_to phase replies room = record { phase = phase; replies = record { list = replies; room = room } }

-- the progress of an ended script
abbrev pub ended_progress : Progress
ended_progress = progress_to Ended [] 0

-- the phase of script n; if there is no such script, that of an ended one
abbrev pub phase_in : List Progress → ℕ → Phase
phase_in progress n = (slice_index_or progress n ended_progress).phase

abbrev pub replies_in : List Progress → ℕ → List Reply
replies_in progress n = (slice_index_or progress n ended_progress).replies.list

abbrev pub room_in : List Progress → ℕ → ℕ
room_in progress n = (slice_index_or progress n ended_progress).replies.room

abbrev pub phase_of : DeskState → ℕ → Phase
phase_of d n = phase_in d.progress n

-- the replies of the script's open transaction
abbrev pub replies_of : DeskState → ℕ → List Reply
replies_of d n = replies_in d.progress n

-- the room for the script's replies
abbrev pub room_of : DeskState → ℕ → ℕ
room_of d n = room_in d.progress n

-- command k of script n, if both exist
abbrev pub command_at : List Scripted → ℕ → ℕ → Option Command
command_at scripts n k = option_and_then (λ s. slice_get s.1 k) (slice_get scripts n)

abbrev pub is_ended : Phase → Bool
is_ended NotBegun = false
is_ended (Idle stamp) = false
is_ended (Open stamp since) = false
is_ended Ended = true

abbrev pub is_open_phase : Phase → Bool
is_open_phase NotBegun = false
is_open_phase (Idle stamp) = false
is_open_phase (Open stamp since) = true
is_open_phase Ended = false

-- the stamp of the script, kept until its end
abbrev pub stamp_of : Phase → Option ℕ
stamp_of NotBegun = None
stamp_of (Idle stamp) = Some stamp
stamp_of (Open stamp since) = Some stamp
stamp_of Ended = None
