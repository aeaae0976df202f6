-- The effects of the calls of a session.
use Rattle.std.specs.Prelude.{◌≡◌, ◌==◌, ◌+◌, ◌++◌, ℕ, List, [], ◌∷◌, Bool, true, false, Option, None, Some, Ok, Err}
use Rattle.std.specs.Prelude.{length, option_map, if◌then◌else◌}
use Rattle.city_model.specs.declared.command.Command.{Command}
use Rattle.city_locks.specs.Locks.{mode_of}
use Rattle.city_txn.specs.declared.txn_core.Step.TheVariants as steps
use Rattle.city_txn.specs.declared.txn_core.TxnFault.TheVariants.{OutOfMemory}
use Rattle.city_txn.specs.Acting.{IsAct}
use Rattle.city_txn.specs.CoreState.{committed, is_open, IsTransactionEnd, IsRolledBack}
use Rattle.city_session.specs.declared.acted.Acted.{Acted}
use Rattle.city_session.specs.declared.acted.Acted.TheVariants as acted
use Rattle.city_session.specs.Grown.{Grown, is_full_there, with_reply}
use Rattle.city_session.specs.Live.{SessionState, grown_at}

-- the open transaction of the stamp is this one, or there is none; the others are as before
abbrev pub GrowsTo : ℕ → Option Grown → List (ℕ × Grown) → List (ℕ × Grown) → Type 0
GrowsTo stamp o before after = (t : ℕ) → grown_at after t ≡ (if stamp == t then o else grown_at before t)

-- ---- begun

-- the stamp to begin with: the one kept since a death, or a new one, the youngest
abbrev pub stamp_for : Option ℕ → ℕ → ℕ
stamp_for None stamps = stamps
stamp_for (Some kept) stamps = kept

-- how many stamps are given by then
abbrev pub stamps_after : Option ℕ → ℕ → ℕ
stamps_after None stamps = stamps + 1
stamps_after (Some kept) stamps = stamps

-- A transaction is begun under the stamp, and holds nothing; so many stamps are given by then.
pub record IsBegun (stamp stamps : ℕ) (s u : SessionState) : Type 0 where
  pub fresh : is_open s.core stamp ≡ false
  pub growing : GrowsTo stamp (Some (record { since = length s.closed; told = [] })) s.growing u.growing
  pub given : u.stamps ≡ stamps
  pub start : u.start ≡ s.start
  pub closed : u.closed ≡ s.closed
  pub city : committed u.core ≡ committed s.core
  pub locks : u.core.locks ≡ s.core.locks
  pub unlocked : (id : List ℕ) → mode_of u.core.locks stamp id ≡ None

-- None was begun: all is as it was.
pub record IsUnchanged (s u : SessionState) : Type 0 where
  pub start : u.start ≡ s.start
  pub closed : u.closed ≡ s.closed
  pub growing : (t : ℕ) → grown_at u.growing t ≡ grown_at s.growing t
  pub given : u.stamps ≡ s.stamps
  pub core : u.core ≡ s.core

-- ---- a command

-- the transaction after the command: a reply is told, a refusal too, and all else is no part of it
abbrev pub told_after : Command → Acted → Grown → Grown
told_after command (acted.Replied reply) g = with_reply command reply g
told_after command acted.Waits g = g
told_after command acted.Dies g = g
told_after command acted.TooMany g = g
told_after command acted.NoMemory g = g

-- the answer is the core's; without room for the command the session is as it was
abbrev pub IsAnswered : ℕ → Command → Acted → SessionState → SessionState → Type 0
IsAnswered stamp command (acted.Replied reply) s u = IsAct stamp command (Ok (steps.Done reply)) s.core u.core
IsAnswered stamp command acted.Waits s u = IsAct stamp command (Ok steps.Wait) s.core u.core
IsAnswered stamp command acted.Dies s u = IsAct stamp command (Ok steps.Die) s.core u.core
IsAnswered stamp command acted.TooMany s u = (is_full_there (grown_at s.growing stamp) ≡ true) × (u ≡ s)
IsAnswered stamp command acted.NoMemory s u = IsAct stamp command (Err OutOfMemory) s.core u.core

-- What came of the command.
pub record IsActed (stamp : ℕ) (command : Command) (answer : Acted) (s u : SessionState) : Type 0 where
  pub room : is_full_there (grown_at s.growing stamp) ≡ true → answer ≡ acted.TooMany
  pub answered : IsAnswered stamp command answer s u
  pub growing : GrowsTo stamp (option_map (told_after command answer) (grown_at s.growing stamp)) s.growing u.growing
  pub given : u.stamps ≡ s.stamps
  pub start : u.start ≡ s.start
  pub closed : u.closed ≡ s.closed
  pub city : committed u.core ≡ committed s.core

-- ---- the end

-- The transaction is over, and stands last among those that have ended, with its writes kept or not.
pub record HasEnded (stamp : ℕ) (is_kept : Bool) (s u : SessionState) : Type 0 where
  pub ended : Grown
  pub is_there : grown_at s.growing stamp ≡ Some ended
  pub closed : u.closed ≡ s.closed ++ (ended, is_kept) ∷ []
  pub growing : GrowsTo stamp None s.growing u.growing
  pub over : IsTransactionEnd stamp s.core u.core
  pub given : u.stamps ≡ s.stamps
  pub start : u.start ≡ s.start

-- It is over and stands nowhere, as if it had not been begun.
pub record IsForgotten (stamp : ℕ) (s u : SessionState) : Type 0 where
  pub closed : u.closed ≡ s.closed
  pub growing : GrowsTo stamp None s.growing u.growing
  pub undone : IsRolledBack stamp s.core u.core
  pub given : u.stamps ≡ s.stamps
  pub start : u.start ≡ s.start
