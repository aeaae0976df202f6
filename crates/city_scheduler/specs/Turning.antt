-- The effect of a script's turn on a desk.
use Rattle.std.specs.Prelude.{◌≡◌, ◌<◌, ◌+◌, ℕ, false, List, [], ◌∷◌, ◌++◌, length, Option, None, Some}
use Rattle.std.specs.Prelude.{slice_get, slice_set}
use Rattle.city_model.specs.declared.command.Command.{Command}
use Rattle.city_model.specs.declared.command.Reply.{Reply}
use Rattle.city_model.specs.declared.end.Outcome.{Outcome}
use Rattle.city_model.specs.declared.end.End.{End}
use Rattle.city_model.specs.Marks.{Snapshot}
use Rattle.city_model.specs.Meaning.{Answers, effect, is_refusal}
use Rattle.city_model.specs.Runs.{Scripted, Change}
use Rattle.city_model.specs.Scripts.{is_end}
use Rattle.city_model.specs.SerialEnds.{is_no_memory, commits_in}
use Rattle.city_locks.specs.declared.answer.Answer.{Answer}
use Rattle.city_locks.specs.declared.answer.Answer.TheVariants.{Granted, Wait, Die}
use Rattle.city_txn.specs.Acting.{answer_in, EndsIn}
use Rattle.city_txn.specs.CoreState.{snapshot}
use Rattle.city_scheduler.specs.declared.progress.Phase.{Phase}
use Rattle.city_scheduler.specs.declared.progress.Phase.TheVariants.{NotBegun, Idle, Open, Ended}
use Rattle.city_scheduler.specs.declared.turn.Turn.{Turn}
use Rattle.city_scheduler.specs.declared.turn.Turn.TheVariants as turns
use Rattle.city_scheduler.specs.DeskState.{DeskState, progress_to, ended_progress, phase_of, replies_of}
use Rattle.city_scheduler.specs.DeskState.{room_of, command_at}

-- a transaction of the script is open, and this command is its next
pub record IsNext (d : DeskState) (n stamp since : ℕ) (command : Command) : Type 0 where
  pub phase : phase_of d n ≡ Open stamp since
  pub next : command_at d.scripts n (length (replies_of d n)) ≡ Some command

-- the opening city, the scripts and the count of scripts handed out stay
pub record Keeps (d e : DeskState) : Type 0 where
  pub start : e.start ≡ d.start
  pub scripts : e.scripts ≡ d.scripts
  pub taken : e.taken ≡ d.taken

-- the progress of script n, with unchanged room; all others are as they were
abbrev pub Moves : DeskState → DeskState → ℕ → Phase → List Reply → Type 0
Moves d e n phase replies = e.progress ≡ slice_set d.progress n (progress_to phase replies (room_of d n))

-- ---- begun

-- the stamp to begin it with: its own, or the number of scripts begun before
abbrev pub stamp_for : DeskState → Phase → Option ℕ
stamp_for d NotBegun = Some d.begun
stamp_for d (Idle stamp) = Some stamp
stamp_for d (Open stamp since) = None
stamp_for d Ended = None

abbrev pub begun_after : ℕ → Phase → ℕ
begun_after begun NotBegun = begun + 1
begun_after begun (Idle stamp) = begun
begun_after begun (Open stamp since) = begun
begun_after begun Ended = begun

pub record HasBegun (d e : DeskState) (n : ℕ) : Type 0 where
  pub stamp : ℕ
  pub is_its : stamp_for d (phase_of d n) ≡ Some stamp
  pub moves : Moves d e n (Open stamp (length d.ends)) []
  pub begun : e.begun ≡ begun_after d.begun (phase_of d n)
  pub ends : e.ends ≡ d.ends

-- ---- a command run

-- a script with an open transaction of this stamp
pub record IsOpenAt (d : DeskState) (stamp : ℕ) : Type 0 where
  pub script : ℕ
  pub began : ℕ
  pub phase : phase_of d script ≡ Open stamp began

-- its next command is neither Commit nor Abort, and the locks give this answer to it
pub record IsAnswered (d : DeskState) (n stamp since : ℕ) (answer : Answer) : Type 0 where
  pub command : Command
  pub next : IsNext d n stamp since command
  pub goes_on : is_end command ≡ false
  pub answered : answer_in d.core stamp command ≡ answer

pub record HasReplied (d e : DeskState) (n : ℕ) : Type 0 where
  pub stamp : ℕ
  pub since : ℕ
  pub is : IsAnswered d n stamp since Granted
  pub reply : Reply
  pub after : Snapshot
  pub does : effect (snapshot d.core stamp) is.command ≡ Answers reply after
  pub unrefused : is_refusal reply ≡ false
  pub moves : Moves d e n (Open stamp since) (replies_of d n ++ reply ∷ [])
  pub begun : e.begun ≡ d.begun
  pub ends : e.ends ≡ d.ends

-- a younger transaction is open
pub record IsWaiting (d : DeskState) (n : ℕ) : Type 0 where
  pub stamp : ℕ
  pub since : ℕ
  pub is : IsAnswered d n stamp since Wait
  pub other : ℕ
  pub younger : stamp < other
  pub opened : IsOpenAt d other

pub record HasWaited (d e : DeskState) (n : ℕ) : Type 0 where
  pub waits : IsWaiting d n
  pub progress : e.progress ≡ d.progress
  pub begun : e.begun ≡ d.begun
  pub ends : e.ends ≡ d.ends

-- an older transaction is open; the stamp is kept
pub record HasDied (d e : DeskState) (n : ℕ) : Type 0 where
  pub stamp : ℕ
  pub since : ℕ
  pub is : IsAnswered d n stamp since Die
  pub other : ℕ
  pub older : other < stamp
  pub opened : IsOpenAt d other
  pub moves : Moves d e n (Idle stamp) []
  pub begun : e.begun ≡ d.begun
  pub ends : e.ends ≡ d.ends

-- ---- ended

-- the open transaction ends with this outcome at its next command
pub record EndsOpen (d : DeskState) (n stamp since : ℕ) (outcome : Outcome) : Type 0 where
  pub command : Command
  pub next : IsNext d n stamp since command
  pub ends : EndsIn d.core stamp command (length (replies_of d n)) outcome
  pub granted : is_end command ≡ false → is_no_memory outcome ≡ false
      → answer_in d.core stamp command ≡ Granted

-- a script in this phase ends with this outcome; without an open transaction, it couldn't be begun
abbrev pub IsDue : DeskState → ℕ → Phase → ℕ → Outcome → Type 0
IsDue d n NotBegun since outcome = (since ≡ length d.ends) × (outcome ≡ Outcome.NoMemory 0)
IsDue d n (Idle stamp) since outcome = (since ≡ length d.ends) × (outcome ≡ Outcome.NoMemory 0)
IsDue d n (Open stamp began) since outcome = (since ≡ began) × EndsOpen d n stamp began outcome
IsDue d n Ended since outcome = ⊥

-- the end of script n with this name and outcome, and with its replies so far
abbrev pub end_of : DeskState → ℕ → List ℕ → ℕ → Outcome → End
end_of d n name since outcome = record {
  script = n;
  name = name;
  since = since;
  replies = replies_of d n;
  outcome = outcome;
}

pub record HasEnded (d e : DeskState) (n : ℕ) : Type 0 where
  pub script : Scripted
  pub is_there : slice_get d.scripts n ≡ Some script
  pub since : ℕ
  pub outcome : Outcome
  pub due : IsDue d n (phase_of d n) since outcome
  pub ends : e.ends ≡ d.ends ++ end_of d n script.0 since outcome ∷ []
  pub moves : e.progress ≡ slice_set d.progress n ended_progress
  pub begun : e.begun ≡ d.begun

-- ---- any turn

-- the effect of the turn, by its answer
abbrev pub IsTurnAs : DeskState → DeskState → ℕ → Turn → Type 0
IsTurnAs d e n turns.Began = HasBegun d e n
IsTurnAs d e n turns.Replied = HasReplied d e n
IsTurnAs d e n turns.Waits = HasWaited d e n
IsTurnAs d e n turns.Died = HasDied d e n
IsTurnAs d e n turns.Ended = HasEnded d e n
IsTurnAs d e n turns.AlreadyEnded = (phase_of d n ≡ Ended) × (e ≡ d)

-- A turn of script n: its answer and its effect on the desk.
pub record IsTurn (n : ℕ) (turn : Turn) (d e : DeskState) : Type 0 where
  pub keeps : Keeps d e
  pub so : IsTurnAs d e n turn

-- the shelf's changes stay, with one more for each commit of the turn
abbrev pub GainsCommits : List End → List End → List Change → List Change → Type 0
GainsCommits ends more before after =
    (gained : List Change) × (after ≡ before ++ gained) × (commits_in more ≡ commits_in ends + length gained)
