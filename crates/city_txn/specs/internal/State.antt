-- The store as contracts see it: the committed city, and the writes and the undo log of each open transaction.
use Rattle.std.specs.Prelude.{◌≡◌, ◌==◌, ◌&&◌, ◌||◌, ℕ, Bool, true, false, List, [], Option, None, Some, is_some}
use Rattle.std.specs.Prelude.{if◌then◌else◌}
use Rattle.city_model.specs.declared.frame.Frame.{Frame}
use Rattle.city_model.specs.CityMap.{Objects, CityMap, object_at, has_id, same_id}
use Rattle.city_model.specs.declared.object.Object.{Object}
use Rattle.city_txn.specs.internal.LogTests.{is_noted}
use Rattle.city_txn.specs.internal.Transactions.{Reservations, listed_by, reservations_of}
use Rattle.city_txn.specs.UndoLog.{OwnWrites, Written, Logs, log_of, marked, has_before}
use Rattle.city_txn.specs.Writes.{Write, write_of, own_or, own_write, unless_by}

pub record State : Type 0 where
  -- the committed city
  pub frame : Frame
  pub city : Objects
  -- the written ids, in byte order
  pub writes : List (List ℕ × Write)
  -- the open transactions by their stamps, each with its reserved ids
  pub opened : Reservations
  -- their undo logs
  pub logs : Logs

abbrev pub is_begun : State → ℕ → Bool
is_begun v stamp = is_some (listed_by v.opened stamp)

-- whether the transaction has reserved the id
abbrev pub is_reserved : State → ℕ → List ℕ → Bool
is_reserved v stamp id = has_id (reservations_of v.opened stamp) id

-- the transaction's write at each id
abbrev pub store_own : State → ℕ → OwnWrites
store_own v stamp id = own_write stamp (write_of v.writes id)

-- and at each of its marks
abbrev pub store_written : State → ℕ → Written
store_written v stamp = (store_own v stamp, marked (log_of v.logs stamp) (store_own v stamp))

abbrev pub store_committed : State → CityMap
store_committed v id = object_at v.city id

-- the transaction's view: the committed map with its own writes
abbrev pub store_view : State → ℕ → CityMap
store_view v stamp id = own_or stamp (write_of v.writes id) (object_at v.city id)

-- the write at an id after the transaction wrote this there, or nothing
abbrev pub written_with : ℕ → Option (Option Object) → Option Write → Option Write
written_with stamp None w = w
written_with stamp (Some o) w = Some (stamp, o)

-- the transaction is open, and no other has reserved one of these ids
pub record MayReserve (v : State) (stamp : ℕ) (ids : List ℕ → Bool) : Type 0 where
  pub opened : is_begun v stamp ≡ true
  pub alone : (id : List ℕ) → ids id ≡ true → (t : ℕ) → is_reserved v t id ≡ true → t ≡ stamp

-- it has reserved the id, and each of its marks stays when it writes there
abbrev pub IsReady : State → ℕ → List ℕ → Type 0
IsReady v stamp id = (is_reserved v stamp id ≡ true) × (is_noted (log_of v.logs stamp) id ≡ true)

-- the transaction has newly reserved none but these ids, and no other any
abbrev pub ReservesAmong : (List ℕ → Bool) → ℕ → State → State → Type 0
ReservesAmong ids stamp v w = (t : ℕ) (id : List ℕ) → is_reserved w t id ≡ true
    → (is_reserved v t id || ((stamp == t) && ids id)) ≡ true

-- the others' writes stay
abbrev pub OthersWritesStay : ℕ → State → State → Type 0
OthersWritesStay stamp v w =
    (id : List ℕ) → unless_by stamp (write_of w.writes id) ≡ unless_by stamp (write_of v.writes id)

-- nothing but writes has changed
pub record ChangesWrites (v w : State) : Type 0 where
  pub frame : w.frame ≡ v.frame
  pub city : store_committed w ≡ store_committed v
  pub opened : w.opened ≡ v.opened
  pub logs : w.logs ≡ v.logs

-- nothing but the write of one id has changed, to this one
pub record WritesOne (id : List ℕ) (write : Option Write) (v w : State) : Type 0 where
  pub only : ChangesWrites v w
  pub writes : (q : List ℕ) → write_of w.writes q ≡ (if same_id id q then write else write_of v.writes q)

-- the transaction has changed nothing but its own writes, its log and its reservations; the last two gained these
-- ids at most
pub record Touches (stamp : ℕ) (ids : List ℕ → Bool) (v w : State) : Type 0 where
  pub frame : w.frame ≡ v.frame
  pub city : store_committed w ≡ store_committed v
  pub opened : (t : ℕ) → is_begun w t ≡ is_begun v t
  pub writes : OthersWritesStay stamp v w
  pub logs : (t : ℕ) → (stamp == t) ≡ false → log_of w.logs t ≡ log_of v.logs t
  pub reserved : ReservesAmong ids stamp v w
  pub noted : (id : List ℕ) → has_before (log_of w.logs stamp) id ≡ true
      → (has_before (log_of v.logs stamp) id || ids id) ≡ true

-- the transaction is open, with nothing reserved; all else stays
pub record Begins (stamp : ℕ) (v w : State) : Type 0 where
  pub frame : w.frame ≡ v.frame
  pub city : w.city ≡ v.city
  pub writes : w.writes ≡ v.writes
  pub opened : (t : ℕ) → is_begun w t ≡ ((stamp == t) || is_begun v t)
  pub reserved : (t : ℕ) (id : List ℕ) → is_reserved w t id ≡ is_reserved v t id
  pub logs : w.logs ≡ v.logs

-- the transaction is no longer open, and its writes, its reservations and its log are gone; the others' stay
pub record Forgets (stamp : ℕ) (v w : State) : Type 0 where
  pub frame : w.frame ≡ v.frame
  pub writes : (id : List ℕ) → write_of w.writes id ≡ unless_by stamp (write_of v.writes id)
  pub opened : (t : ℕ) → is_begun w t ≡ (if stamp == t then false else is_begun v t)
  pub reserved : (t : ℕ) (id : List ℕ)
      → is_reserved w t id ≡ (if stamp == t then false else is_reserved v t id)
  pub logs : (t : ℕ) → log_of w.logs t ≡ (if stamp == t then [] else log_of v.logs t)
