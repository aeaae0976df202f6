-- A command done on the store, for a transaction with its locks.
use Rattle.std.specs.Prelude.{◌≡◌, ℕ, Bool, List, Result, is_ok, IfOk, IsOk, if◌then◌else◌}
use Rattle.city_txn.specs.internal.Prelude.{keys_of, Command, Reply, WentBack, has_id, Snapshot, locks_of, IsSound}
use Rattle.city_txn.specs.internal.Prelude.{Change}
use Rattle.city_txn.specs.internal.Prelude.{locks_id, locks_id_exclusively, action, answer, written_by, marks_with}
use Rattle.city_txn.specs.internal.Prelude.{State}
use Rattle.city_txn.specs.internal.Prelude.{store_written, store_committed, store_view, MayReserve, Touches}

-- whether the change writes the id
abbrev pub plans : Change → List ℕ → Bool
plans change id = has_id (keys_of change) id

-- the transaction's snapshot
abbrev pub seen : State → ℕ → Snapshot
seen v stamp = record { map = store_view v stamp; marks = marks_with (store_committed v) (store_written v stamp).1 }

-- the transaction is open and sees a sound city, and no other has reserved an id of the command's locks
pub record MayPerform (v : State) (stamp : ℕ) (command : Command) : Type 0 where
  pub sound : IsSound (store_view v stamp)
  pub locked : MayReserve v stamp (locks_id (locks_of (store_view v stamp) command))

pub record IsPerform {E : Type 0} (stamp : ℕ) (command : Command) (result : Result Reply E)
    (old new : State) : Type 0 where
  pub reply : IfOk result (λ reply. reply ≡ answer (seen old stamp) command)
  -- going back to a mark that is there doesn't allocate
  pub found : answer (seen old stamp) command ≡ WentBack → IsOk result
  -- the writes, at marks too, are as the command leaves them; if memory runs out, nothing is written
  pub written : store_written new stamp
      ≡ (if is_ok result then written_by (action (store_view old stamp) command) (store_written old stamp)
      else store_written old stamp)
  pub touches : Touches stamp (locks_id_exclusively (locks_of (store_view old stamp) command)) old new
