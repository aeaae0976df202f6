-- A session: what has ended is a serial history, and what is open stands on the model after it.
use Rattle.std.specs.Prelude.{◌≡◌, ◌<◌, ◌≤◌, ℕ, List, true, Option, Some, is_some, length, take, slice_get}
use Rattle.std.specs.Map.{lookup}
use Rattle.std.specs.Ordering.{nat_cmp}
use Rattle.std.specs.BTreeMap.{is_at}
use Rattle.city_model.specs.CityMap.{CityMap, CityValue, object_at}
use Rattle.city_model.specs.Relations.{IsLawful}
use Rattle.city_model.specs.Runs.{IsSerialHistory, model_after}
use Rattle.city_model.specs.Scripts.{AreScripts}
use Rattle.city_txn.specs.CoreState.{CoreState, committed, is_open, StandsUnderLocks}
use Rattle.city_session.specs.Grown.{Grown, Closed, max_commands, script_of, scripts_of, ends_of, IsTold}

-- A session as contracts see it: its opening city; the transactions that have ended, oldest first, and the open ones,
-- by their stamps; how many stamps it has given; and its core.
pub record SessionState : Type 0 where
  pub start : CityValue
  pub closed : List Closed
  pub growing : List (ℕ × Grown)
  pub stamps : ℕ
  pub core : CoreState

-- the open transaction of the stamp
abbrev pub grown_at : List (ℕ × Grown) → ℕ → Option Grown
grown_at growing stamp = lookup (is_at (nat_cmp stamp)) growing

-- the model after the first n that have ended, run one at a time from the opening city
abbrev pub model_at : SessionState → ℕ → CityMap
model_at s n = model_after (scripts_of s.closed) (object_at s.start.1) (take n (ends_of s.closed))

-- an open transaction began after some that have ended, and what it was told stands on the committed city, under its
-- locks
pub record IsStanding (closed : List Closed) (core : CoreState) (stamp : ℕ) (g : Grown) : Type 0 where
  pub since : g.since ≤ length closed
  pub stands : StandsUnderLocks core stamp g.told

-- After any calls in any order: the transactions that have ended, each as a script, are a serial history in the order
-- of their ends; each was told what it would have been told there, refused commands too; the model is lawful after
-- each; the core has what they leave; and the open ones stand on it.
pub record IsLive (s : SessionState) : Type 0 where
  pub scripts : AreScripts (scripts_of s.closed)
  pub within : (n : ℕ) (c : Closed) → slice_get s.closed n ≡ Some c → length (script_of c).1 ≤ max_commands
  pub fits : IsSerialHistory (scripts_of s.closed) (object_at s.start.1) (ends_of s.closed)
  pub told : (n : ℕ) (c : Closed) → slice_get s.closed n ≡ Some c → IsTold (model_at s n) c.0.told
  pub lawful : (n : ℕ) → IsLawful (model_at s n)
  pub city : committed s.core ≡ model_after (scripts_of s.closed) (object_at s.start.1) (ends_of s.closed)
  pub frame : s.core.frame ≡ s.start.0
  pub opened : (t : ℕ) → is_open s.core t ≡ is_some (grown_at s.growing t)
  pub standing : (t : ℕ) (g : Grown) → grown_at s.growing t ≡ Some g → IsStanding s.closed s.core t g
  pub given : (t : ℕ) → is_open s.core t ≡ true → t < s.stamps
