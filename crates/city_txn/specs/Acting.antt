-- The effect of a command on a core.
use Rattle.std.specs.Prelude.{◌≡◌, ◌≢◌, ◌==◌, ◌&&◌, ◌||◌, not, ℕ, Bool, true, false, List, [], ◌∷◌, ◌++◌}
use Rattle.std.specs.Prelude.{if◌then◌else◌}
use Rattle.std.specs.Prelude.{Result, Ok, Err, IfOk, IfErr, OnOk, IsOk, Option, Some}
use Rattle.std.specs.List.{list_all}
use Rattle.city_model.specs.declared.command.Command.{Command}
use Rattle.city_model.specs.declared.command.Command.TheVariants.{Commit}
use Rattle.city_model.specs.declared.command.Cause.{Cause}
use Rattle.city_model.specs.declared.command.Reply.{Reply}
use Rattle.city_model.specs.declared.command.Reply.TheVariants.{WentBack, Refused}
use Rattle.city_model.specs.Runs.{EndsAt}
use Rattle.city_model.specs.declared.end.Outcome.{Outcome}
use Rattle.city_model.specs.Actions.{action}
use Rattle.city_model.specs.Marks.{Snapshot}
use Rattle.city_model.specs.Meaning.{Answers, effect, Does, is_refusal, locks_of}
use Rattle.city_locks.specs.declared.answer.Answer.{Answer}
use Rattle.city_locks.specs.declared.answer.Answer.TheVariants.{Granted, Wait, Die}
use Rattle.city_txn.specs.declared.txn_core.Conflict.{Conflict}
use Rattle.city_txn.specs.declared.txn_core.Step.{Step}
use Rattle.city_txn.specs.declared.txn_core.Step.TheVariants as steps
use Rattle.city_txn.specs.declared.txn_core.TxnFault.{TxnFault}
use Rattle.city_txn.specs.declared.txn_core.TxnFault.TheVariants.{NotOpen, OutOfMemory}
use Rattle.city_txn.specs.Writes.{write_of, is_by, unless_by}
use Rattle.city_txn.specs.UndoLog.{written_by}
use Rattle.city_model.specs.Standing.{Lock, Answered, AllHeld, locks_id_exclusively}
use Rattle.city_txn.specs.CoreState.{CoreState, committed, view, written, snapshot, is_open, held}
use Rattle.city_txn.specs.CoreState.{StandsUnderLocks, KeepsOthers}
use Rattle.city_locks.specs.Asking.{first_answer, first_ungranted, granted_before, GainsFirst, IsBlocked}
use Rattle.city_locks.specs.Holders.{answer_among, gives_way, Once}
use Rattle.city_locks.specs.Locks.{holders_of}

-- the answer to the command's locks: of the first not granted, or Granted
abbrev pub answer_in : CoreState → ℕ → Command → Answer
answer_in v stamp command = first_answer v.locks stamp (locks_of (view v stamp) command)

-- the locks before the first not granted
abbrev pub granted_in : CoreState → ℕ → Command → List Lock
granted_in v stamp command = granted_before v.locks stamp (locks_of (view v stamp) command)

-- the first lock not granted
abbrev pub ungranted_in : CoreState → ℕ → Command → Option Lock
ungranted_in v stamp command = first_ungranted v.locks stamp (locks_of (view v stamp) command)

-- It is the first lock not granted, with the holders of its id.
pub record IsConflict (v : CoreState) (stamp : ℕ) (command : Command) (c : Conflict) : Type 0 where
  pub first : ungranted_in v stamp command ≡ Some (c.id.now, c.mode)
  pub held : c.holders.now ≡ holders_of v.locks c.id.now
  pub once : Once c.holders.now
  -- the answer to the command's locks is the one among these holders, Wait or Die
  pub answer : answer_in v stamp command ≡ answer_among c.holders.now stamp c.mode
  pub refused : answer_in v stamp command ≢ Granted
  -- on Wait the holders in conflict are younger
  pub younger : answer_in v stamp command ≡ Wait → list_all (gives_way stamp c.mode) c.holders.now ≡ true

-- the transaction ends with this outcome at the command, which is number `number` of its script
abbrev pub EndsIn : CoreState → ℕ → Command → ℕ → Outcome → Type 0
EndsIn v stamp command number outcome = EndsAt (snapshot v stamp) command number outcome

-- a commit of the transaction is refused by this cause
abbrev pub RefusesCommit : CoreState → ℕ → Cause → Type 0
RefusesCommit v stamp cause = Does (snapshot v stamp) Commit (Refused cause) (snapshot v stamp)

-- the step of an answer to the locks and a reply
abbrev pub step_of : Answer → Reply → Step
step_of Granted reply = steps.Done reply
step_of Wait reply = steps.Wait
step_of Die reply = steps.Die

abbrev pub is_done : Result Step TxnFault → Bool
is_done (Ok (steps.Done reply)) = true
is_done (Ok steps.Wait) = false
is_done (Ok steps.Die) = false
is_done (Err fault) = false

-- the commands with this one, if it is done
abbrev pub with_step : Result Step TxnFault → Command → List Answered → List Answered
with_step (Ok (steps.Done reply)) command done = done ++ (command, reply) ∷ []
with_step (Ok steps.Wait) command done = done
with_step (Ok steps.Die) command done = done
with_step (Err fault) command done = done

-- A call by the stamp to do the command: its answer, and the core after it.
pub record IsAct (stamp : ℕ) (command : Command) (result : Result Step TxnFault)
    (old new : CoreState) : Type 0 where
  -- the reply to the command at the transaction's view, and the view after it
  pub reply : Reply
  pub after : Snapshot
  pub does : effect (snapshot old stamp) command ≡ Answers reply after
  -- done if each lock is granted, and else the answer of the first not granted
  pub step : IfOk result (λ step. step ≡ step_of (answer_in old stamp command) reply)
  pub fault : IfErr result (λ fault. fault ≡ (if is_open old stamp then OutOfMemory else NotOpen stamp))
  -- if the stamp isn't open, the answer is NotOpen, and nothing changes
  pub not_open : is_open old stamp ≡ false → (result ≡ Err (NotOpen stamp)) × (new ≡ old)
  -- if it holds the locks before that one, being out of memory hides no Wait and no Die
  pub answered : is_open old stamp ≡ true → answer_in old stamp command ≢ Granted
      → AllHeld (held old stamp) (granted_in old stamp command) → IsOk result
  -- nor does it keep the transaction from going back to a mark of its own
  pub found : is_open old stamp ≡ true → reply ≡ WentBack → IsOk result
  -- on Wait it is older than another open transaction; on Die it is younger than one
  pub blocked : OnOk result (IsBlocked (λ t. is_open old t ≡ true) stamp (answer_in old stamp command))
  -- if the command is done, the transaction sees its result; all else that is seen stays
  pub sees : snapshot new stamp ≡ (if is_done result then after else snapshot old stamp)
  pub city : committed new ≡ committed old
  pub views : (t : ℕ) → (stamp == t) ≡ false → snapshot new t ≡ snapshot old t
  pub opened : is_open new stamp ≡ is_open old stamp
  -- of the locks before the first not granted it gains the first few, in their order, and no others; unless memory runs
  -- out, all of them. It loses none; the others keep theirs
  pub locks : GainsFirst stamp (granted_in old stamp command) old.locks new.locks
  pub granted : OnOk result (AllHeld (held new stamp) (granted_in old stamp command))
  -- its writes are as the command's action leaves them: an edit writes its ids, a new mark has the current writes, and
  -- going back restores the writes of the mark; the others' writes and marks stay
  pub writes : written new stamp
      ≡ (if is_done result then written_by (action (view old stamp) command) (written old stamp)
      else written old stamp)
  -- unless it goes back, they gain just the ids that the command locks exclusively, none if it is refused or not done
  pub gained : (id : List ℕ) → reply ≢ WentBack → is_by stamp (write_of new.writes id)
      ≡ (is_by stamp (write_of old.writes id)
      || (is_done result && not (is_refusal reply)
      && locks_id_exclusively (locks_of (view old stamp) command) id))
  pub unwritten : (id : List ℕ) → unless_by stamp (write_of new.writes id) ≡ unless_by stamp (write_of old.writes id)
  pub others : (t : ℕ) → (stamp == t) ≡ false → written new t ≡ written old t
  -- all commands that stood stand, and this one with them; if it is refused, also without it
  pub own : (done : List Answered) → StandsUnderLocks old stamp done
      → StandsUnderLocks new stamp (with_step result command done)
  pub refused : is_refusal reply ≡ true
      → (done : List Answered) → StandsUnderLocks old stamp done → StandsUnderLocks new stamp done
  pub keeps : KeepsOthers stamp old new
