-- One step of an attempt: the next command of an open transaction, run on a core.
use Rattle.std.specs.Prelude.{◌≡◌, ℕ, Bool, true, false, List, [], ◌∷◌, ◌++◌, length}
use Rattle.city_model.specs.declared.command.Command.{Command}
use Rattle.city_model.specs.declared.command.Reply.{Reply}
use Rattle.city_model.specs.declared.end.Outcome.{Outcome}
use Rattle.city_model.specs.Marks.{Snapshot}
use Rattle.city_model.specs.Meaning.{Answers, effect, is_refusal}
use Rattle.city_model.specs.Runs.{Change, after_change}
use Rattle.city_model.specs.Scripts.{is_end}
use Rattle.city_model.specs.SerialEnds.{is_no_memory, is_commit}
use Rattle.city_model.specs.Standing.{Answered}
use Rattle.city_locks.specs.declared.answer.Answer.TheVariants.{Granted, Wait, Die}
use Rattle.city_txn.specs.CoreState.{CoreState, committed, view, snapshot, is_open, StandsUnderLocks}
use Rattle.city_txn.specs.CoreState.{KeepsOthers}
use Rattle.city_txn.specs.Acting.{answer_in, EndsIn}
use Rattle.city_locks.specs.Asking.{IsBlocked}
use Rattle.city_scheduler.specs.declared.attempt.CommandOutcome.{CommandOutcome}
use Rattle.city_scheduler.specs.declared.progress.Progress.{Progress}
use Rattle.city_scheduler.specs.declared.progress.Phase.TheVariants.{Idle}
use Rattle.city_scheduler.specs.DeskState.{progress_to}
use Rattle.city_scheduler.specs.declared.turn.Turn.{Turn}
use Rattle.city_scheduler.specs.declared.turn.Turn.TheVariants as turns

-- the command was done and stands with those before it, and its reply was noted
pub record IsReplied (stamp : ℕ) (command : Command) (p q : Progress) (old new : CoreState) : Type 0 where
  pub goes_on : is_end command ≡ false
  pub granted : answer_in old stamp command ≡ Granted
  pub reply : Reply
  pub after : Snapshot
  pub does : effect (snapshot old stamp) command ≡ Answers reply after
  pub unrefused : is_refusal reply ≡ false
  pub heard : q ≡ progress_to p.phase (p.replies.list ++ reply ∷ []) p.replies.room
  pub opened : is_open new stamp ≡ true
  pub stands : (done : List Answered) → StandsUnderLocks old stamp done
      → StandsUnderLocks new stamp (done ++ (command, reply) ∷ [])

-- the command has to wait for a younger transaction; the commands before it stand
pub record IsToWait (stamp : ℕ) (command : Command) (p q : Progress) (old new : CoreState) : Type 0 where
  pub goes_on : is_end command ≡ false
  pub waits : answer_in old stamp command ≡ Wait
  pub blocked : IsBlocked (λ t. is_open old t ≡ true) stamp Wait
  pub same : q ≡ p
  pub opened : is_open new stamp ≡ true
  pub stands : (done : List Answered) → StandsUnderLocks old stamp done → StandsUnderLocks new stamp done

-- the transaction had to die because of an older one; the room for replies stays
pub record IsToDie (stamp : ℕ) (command : Command) (p q : Progress) (old new : CoreState) : Type 0 where
  pub goes_on : is_end command ≡ false
  pub dies : answer_in old stamp command ≡ Die
  pub blocked : IsBlocked (λ t. is_open old t ≡ true) stamp Die
  pub idle : q ≡ progress_to (Idle stamp) [] p.replies.room
  pub closed : is_open new stamp ≡ false

-- a commit makes the transaction's view the committed city and adds its change to the shelf's; without one, both stay
abbrev pub Publishes : Bool → ℕ → CoreState → CoreState → List Change → List Change → Type 0
Publishes true stamp old new before after =
    (committed new ≡ view old stamp)
    × ((change : Change)
    × (after ≡ before ++ change ∷ []) × (after_change (committed old) change ≡ view old stamp))
Publishes false stamp old new before after = (committed new ≡ committed old) × (after ≡ before)

-- the transaction ended with this outcome at the command, number `number` of its script
pub record AttemptEnded (stamp : ℕ) (command : Command) (number : ℕ) (outcome : Outcome) (old new : CoreState)
    (before after : List Change) : Type 0 where
  pub ends : EndsIn old stamp command number outcome
  pub granted : is_end command ≡ false → is_no_memory outcome ≡ false → answer_in old stamp command ≡ Granted
  pub closed : is_open new stamp ≡ false
  pub keeps : KeepsOthers stamp old new
  pub publishes : Publishes (is_commit outcome) stamp old new before after

-- its script goes on after this turn
abbrev pub GoesOn : ℕ → Command → Turn → Progress → Progress → CoreState → CoreState → Type 0
GoesOn stamp command turns.Began p q old new = ⊥
GoesOn stamp command turns.Replied p q old new = IsReplied stamp command p q old new
GoesOn stamp command turns.Waits p q old new = IsToWait stamp command p q old new
GoesOn stamp command turns.Died p q old new = IsToDie stamp command p q old new
GoesOn stamp command turns.Ended p q old new = ⊥
GoesOn stamp command turns.AlreadyEnded p q old new = ⊥

-- the script goes on, and nothing is published
pub record HasGoneOn (stamp : ℕ) (command : Command) (turn : Turn) (p q : Progress) (old new : CoreState)
    (before after : List Change) : Type 0 where
  pub so : GoesOn stamp command turn p q old new
  pub keeps : KeepsOthers stamp old new
  pub city : committed new ≡ committed old
  pub changes : after ≡ before

-- A step by the command: from this progress, core and list of the shelf's changes to those.
abbrev pub HasStepped : ℕ → Command → CommandOutcome → Progress → Progress → CoreState → CoreState
    → List Change → List Change → Type 0
HasStepped stamp command (CommandOutcome.GoesOn turn) p q old new before after =
    HasGoneOn stamp command turn p q old new before after
HasStepped stamp command (CommandOutcome.Ends outcome) p q old new before after =
    (q ≡ p) × AttemptEnded stamp command (length p.replies.list) outcome old new before after
