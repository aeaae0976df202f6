-- What has ended, one after another, each run at the map that those before it leave.
use Rattle.std.specs.Prelude.{◌≡◌, ◌<◌, ◌≤◌, ◌+◌, ◌-◌, ◌^◌, ℕ, List, [], ◌∷◌, true, length, Some, is_some, slice_get}
use Rattle.city_model.specs.CityMap.{CityMap, CityValue, object_at}
use Rattle.city_model.specs.Relations.{IsLawful}
use Rattle.city_model.specs.Runs.{Scripted, IsScriptResult, map_left}
use Rattle.city_model.specs.Scripts.{ends_once}
use Rattle.city_txn.specs.CoreState.{CoreState, committed, is_open}
use Rattle.city_session.specs.Grown.{Grown, Closed, max_commands, unrefused, replies_in, script_of, outcome_of, IsTold}
use Rattle.city_session.specs.Live.{grown_at, IsStanding}

-- the map that it leaves
abbrev pub left : CityMap → Closed → CityMap
left m c = map_left m (script_of c).1 (outcome_of c)

abbrev pub left_by_all : CityMap → List Closed → CityMap
left_by_all m [] = m
left_by_all m (c ∷ cs) = left_by_all (left m c) cs

-- the transaction, at this place, run alone at the map
pub record IsRunAt (m : CityMap) (place : ℕ) (c : Closed) : Type 0 where
  pub since : c.0.since ≤ place
  pub told : IsTold m c.0.told
  pub result : IsScriptResult m (script_of c).1 (replies_in (unrefused c.0.told)) (outcome_of c)
  pub scripted : ends_once (script_of c).1 ≡ true
  pub within : length (script_of c).1 ≤ max_commands

abbrev pub AreRun : CityMap → ℕ → List Closed → Type 0
AreRun m place [] = Unit {0}
AreRun m place (c ∷ cs) = IsRunAt m place c × AreRun (left m c) (place + 1) cs

-- from this place on, the scripts are those of these transactions
abbrev pub AreScriptsOf : List Scripted → ℕ → List Closed → Type 0
AreScriptsOf scripts place [] = Unit {0}
AreScriptsOf scripts place (c ∷ cs) =
    (slice_get scripts place ≡ Some (script_of c)) × AreScriptsOf scripts (place + 1) cs

-- A session's record is right: what has ended was run one at a time, the committed city is what it leaves, and the open
-- ones stand on it; no stamp is open that was not given; and the count of what has ended is right, unless it is at its
-- limit.
pub record IsRecorded (start : CityValue) (closed : List Closed) (ended stamps : ℕ) (growing : List (ℕ × Grown))
    (core : CoreState) : Type 0 where
  pub lawful : IsLawful (object_at start.1)
  pub runs : AreRun (object_at start.1) 0 closed
  pub city : committed core ≡ left_by_all (object_at start.1) closed
  pub frame : core.frame ≡ start.0
  pub opened : (t : ℕ) → is_open core t ≡ is_some (grown_at growing t)
  pub standing : (t : ℕ) (g : Grown) → grown_at growing t ≡ Some g → IsStanding closed core t g
  pub given : (t : ℕ) → is_open core t ≡ true → t < stamps
  pub counted : ended < 2 ^ 64 - 1 → ended ≡ length closed
