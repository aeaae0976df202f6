-- The value of a core, from its fields, and its invariant.
use Rattle.std.specs.Prelude.{◌≡◌, ℕ, Bool, true, false, List, [], ◌∷◌, None, Some, is_some}
use Rattle.city_txn.specs.internal.Prelude.{keys_of, Exclusive, CityMap, unmarked, IsLawful, Held, Answered}
use Rattle.city_txn.specs.internal.Prelude.{IsTraceUnderLocks, mode_of, Lawful, Entry, Inside, OwnWrites, Written}
use Rattle.city_txn.specs.internal.Prelude.{log_of}
use Rattle.city_txn.specs.internal.Prelude.{marked, CoreState, committed, own, is_open, held, view_with}
use Rattle.city_txn.specs.internal.Prelude.{is_reserved}

-- the state of a transaction: its writes, its undo log, whether it is open, and its locks
pub record Kept : Type 0 where
  pub own : OwnWrites
  pub log : List Entry
  pub opened : Bool
  pub held : Held

abbrev pub kept : CoreState → ℕ → Kept
kept v stamp = record { own = own v stamp; log = log_of v.logs stamp; opened = is_open v stamp; held = held v stamp }

-- the state of one that did nothing
abbrev pub nothing : Bool → Kept
nothing opened = record { own = λ id. None; log = []; opened = opened; held = λ id. None }

abbrev pub written_of : Kept → Written
written_of k = (k.own, marked k.log k.own)

-- its commands stand: over the committed map m they lead to its snapshot
abbrev pub Stands : CityMap → Kept → List Answered → Type 0
Stands m k done = IsTraceUnderLocks k.held (unmarked m) done (view_with m (written_of k))

-- the writes are under exclusive locks
abbrev pub IsCovered : Held → OwnWrites → Type 0
IsCovered held f = (id : List ℕ) → is_some (f id) ≡ true → held id ≡ Some Exclusive

abbrev pub AreCovered : Held → List (List ℕ × OwnWrites) → Type 0
AreCovered held [] = Unit {0}
AreCovered held (k ∷ ks) = IsCovered held k.1 × AreCovered held ks

-- by now and at each mark
pub record IsWrittenUnder (held : Held) (w : Written) : Type 0 where
  pub own : IsCovered held w.0
  pub marks : AreCovered held w.1

-- its writes are under exclusive locks, at its marks too; if it isn't open, it has nothing; its snapshot comes of
-- commands that stand
pub record IsKept (m : CityMap) (k : Kept) : Type 0 where
  pub covered : IsWrittenUnder k.held (written_of k)
  pub shut : k.opened ≡ false → k ≡ nothing false
  pub done : List Answered
  pub stands : Stands m k done

pub record IsConsistent (v : CoreState) : Type 0 where
  pub lawful : Lawful v.locks
  pub city : IsLawful (committed v)
  pub each : (stamp : ℕ) → IsKept (committed v) (kept v stamp)

abbrev pub core_state : Inside → CoreState
core_state a = record {
  frame = a.store.frame;
  city = a.store.city;
  writes = a.store.writes;
  opened = keys_of a.store.opened;
  logs = a.store.logs;
  locks = a.locks;
}

-- an id is reserved only under an exclusive lock
pub record IsCore (a : Inside) : Type 0 where
  pub state : IsConsistent (core_state a)
  pub reserved : (t : ℕ) (id : List ℕ)
      → is_reserved a.store t id ≡ true → mode_of a.locks t id ≡ Some Exclusive
