-- A core as contracts see it: its committed city, and the writes, the marks and the locks of its open transactions.
use Rattle.std.specs.Prelude.{◌≡◌, ◌==◌, ℕ, Bool, false, List, [], None}
use Rattle.std.specs.Prelude.{if◌then◌else◌}
use Rattle.std.specs.List.{list_any}
use Rattle.city_model.specs.declared.frame.Frame.{Frame}
use Rattle.city_model.specs.CityMap.{Objects, CityMap, object_at}
use Rattle.city_locks.specs.Asking.{held_in}
use Rattle.city_locks.specs.Locks.{Locks, mode_of}
use Rattle.city_txn.specs.Writes.{Write, write_of, own_or, own_write, unless_by}
use Rattle.city_txn.specs.UndoLog.{Logs, OwnWrites, Written, log_of, marked, marks_with}
use Rattle.city_model.specs.Marks.{Snapshot, unmarked}
use Rattle.city_model.specs.Standing.{Held, Answered, IsTraceUnderLocks}

pub record CoreState : Type 0 where
  -- the committed city
  pub frame : Frame
  pub city : Objects
  -- the written ids, each with its writer and its object for the writer
  pub writes : List (List ℕ × Write)
  -- the stamps of the open transactions
  pub opened : List ℕ
  -- their undo logs, to go back to their marks
  pub logs : Logs
  pub locks : Locks

abbrev pub committed : CoreState → CityMap
committed v id = object_at v.city id

-- the transaction's view: the committed map with its own writes
abbrev pub view : CoreState → ℕ → CityMap
view v stamp id = own_or stamp (write_of v.writes id) (object_at v.city id)

-- the transaction's write at each id, by now and at each of its marks
abbrev pub own : CoreState → ℕ → OwnWrites
own v stamp id = own_write stamp (write_of v.writes id)

abbrev pub written : CoreState → ℕ → Written
written v stamp = (own v stamp, marked (log_of v.logs stamp) (own v stamp))

-- the transaction's snapshot: its view, and for each mark the committed map with its writes at the mark
abbrev pub snapshot : CoreState → ℕ → Snapshot
snapshot v stamp = record { map = view v stamp; marks = marks_with (committed v) (written v stamp).1 }

abbrev pub is_open : CoreState → ℕ → Bool
is_open v stamp = list_any (λ t. stamp == t) v.opened

abbrev pub held : CoreState → ℕ → Held
held v stamp = held_in v.locks stamp

-- the commands of the transaction stand: from the committed map, with its locks held, they get these replies and lead
-- to its snapshot
abbrev pub StandsUnderLocks : CoreState → ℕ → List Answered → Type 0
StandsUnderLocks v stamp done = IsTraceUnderLocks (held v stamp) (unmarked (committed v)) done (snapshot v stamp)

-- each other transaction stays open or not, and its commands stand as they stood
pub record KeepsOthers (stamp : ℕ) (old new : CoreState) : Type 0 where
  pub frame : new.frame ≡ old.frame
  pub opened : (t : ℕ) → (stamp == t) ≡ false → is_open new t ≡ is_open old t
  pub others : (t : ℕ) (done : List Answered) → (stamp == t) ≡ false → StandsUnderLocks old t done
      → StandsUnderLocks new t done

-- the transaction of the stamp is over: its writes, its marks and its locks are gone, and it is no longer
-- open; the others' stay
pub record IsTransactionEnd (stamp : ℕ) (old new : CoreState) : Type 0 where
  pub writes : (id : List ℕ) → write_of new.writes id ≡ unless_by stamp (write_of old.writes id)
  pub marks : (t : ℕ) → log_of new.logs t ≡ (if stamp == t then [] else log_of old.logs t)
  pub locks : (t : ℕ) (id : List ℕ)
      → mode_of new.locks t id ≡ (if stamp == t then None else mode_of old.locks t id)
  pub closed : is_open new stamp ≡ false
  pub keeps : KeepsOthers stamp old new

-- it is over, and its writes are undone: all else that is seen stays
pub record IsRolledBack (stamp : ℕ) (old new : CoreState) : Type 0 where
  pub city : committed new ≡ committed old
  pub views : (t : ℕ) → (stamp == t) ≡ false → snapshot new t ≡ snapshot old t
  pub over : IsTransactionEnd stamp old new
