-- Scripts run one after another, each as a whole.
use Rattle.std.specs.Prelude.{◌≡◌, ◌≤◌, ◌==◌, ◌+◌, ℕ, List, [], ◌∷◌, Bool, false, Option, Some, None}
use Rattle.std.specs.Prelude.{slice_get, if◌then◌else◌}
use Rattle.std.specs.List.{list_any}
use Rattle.city_model.specs.declared.object.Object.{Object}
use Rattle.city_model.specs.declared.command.Command.{Command}
use Rattle.city_model.specs.declared.command.Reply.{Reply}
use Rattle.city_model.specs.declared.end.End.{End}
use Rattle.city_model.specs.declared.end.Outcome.{Outcome}
use Rattle.city_model.specs.CityMap.{CityMap, changed}
use Rattle.city_model.specs.Marks.{Snapshot, unmarked}
use Rattle.city_model.specs.Meaning.{Effect, Answers, Commits, Aborts, effect, is_refusal, Does, GoesOn}

-- a script: its name and its commands
abbrev pub Scripted : Type 0
Scripted = List ℕ × List Command

-- the commands, without an end of a script, get these replies one after another, and lead to the second view
abbrev pub Trace : Snapshot → List Command → List Reply → Snapshot → Type 0
Trace v [] [] w = w ≡ v
Trace v [] (r ∷ rs) w = ⊥
Trace v (c ∷ cs) [] w = ⊥
Trace v (c ∷ cs) (r ∷ rs) w = GoesOn (effect v c) (λ reply u. (reply ≡ r) × Trace u cs rs w)

-- the command, number i, ends its script with this outcome at the view v
abbrev pub EndsAt : Snapshot → Command → ℕ → Outcome → Type 0
EndsAt v c i Outcome.Committed = Does v c Reply.Committed v
EndsAt v c i Outcome.Aborted = Does v c Reply.Aborted v
EndsAt v c i (Outcome.Refused j cause) = (j ≡ i) × Does v c (Reply.Refused cause) v
EndsAt v c i (Outcome.NoMemory j) = j ≡ i

-- the commands from number i on, run at v: these replies, none of them a refusal, and then this outcome
abbrev pub EndsFrom : Snapshot → ℕ → List Command → List Reply → Outcome → Type 0
EndsFrom v i [] replies outcome = ⊥
EndsFrom v i (c ∷ cs) [] outcome = EndsAt v c i outcome
EndsFrom v i (c ∷ cs) (r ∷ rs) outcome = GoesOn (effect v c)
    (λ reply u. (reply ≡ r) × (is_refusal reply ≡ false) × EndsFrom u (i + 1) cs rs outcome)

-- the result of a script at the map m: the replies before its ending command, and its outcome; it may run out of memory
-- at any command
abbrev pub IsScriptResult : CityMap → List Command → List Reply → Outcome → Type 0
IsScriptResult m commands replies outcome = EndsFrom (unmarked m) 0 commands replies outcome

-- the snapshot at the end, if the first of the commands has this effect, and `others` leads from each view to the end
abbrev pub goes_to : Snapshot → Effect → (Snapshot → Snapshot) → Snapshot
goes_to v (Answers reply u) others = if is_refusal reply then v else others u
goes_to v Commits others = v
goes_to v Aborts others = v

-- the snapshot at the first refused command, Commit or Abort
abbrev pub view_at_end : Snapshot → List Command → Snapshot
view_at_end v [] = v
view_at_end v (c ∷ cs) = goes_to v (effect v c) (λ u. view_at_end u cs)

-- the map after a script: with its writes if it commits, and else unchanged
abbrev pub map_left : CityMap → List Command → Outcome → CityMap
map_left m commands Outcome.Committed = (view_at_end (unmarked m) commands).map
map_left m commands Outcome.Aborted = m
map_left m commands (Outcome.Refused i cause) = m
map_left m commands (Outcome.NoMemory i) = m

-- the same of a script looked up in a list
abbrev pub left_by_found : CityMap → Option Scripted → Outcome → CityMap
left_by_found m None outcome = m
left_by_found m (Some s) outcome = map_left m s.1 outcome

-- the map after the script of an end; by `IsEndOf` there is one
abbrev pub left_by : List Scripted → CityMap → End → CityMap
left_by scripts m e = left_by_found m (slice_get scripts e.script) e.outcome

-- the map after the scripts of these ends, one at a time, in this order
abbrev pub model_after : List Scripted → CityMap → List End → CityMap
model_after scripts m [] = m
model_after scripts m (e ∷ es) = model_after scripts (left_by scripts m e) es

-- the end, at this place in the list, is a result of its script at the map m
pub record IsEndOf (scripts : List Scripted) (m : CityMap) (place : ℕ) (e : End) : Type 0 where
  pub script : Scripted
  pub is_there : slice_get scripts e.script ≡ Some script
  pub named : e.name ≡ script.0
  pub since : e.since ≤ place
  pub result : IsScriptResult m script.1 e.replies e.outcome

-- no end of the list is of this script
abbrev pub NoEndOf : ℕ → List End → Type 0
NoEndOf script [] = Unit {0}
NoEndOf script (e ∷ es) = (e.script ≡ script → ⊥) × NoEndOf script es

-- whether an end of the list is of this script
abbrev pub has_end : ℕ → List End → Bool
has_end script ends = list_any (λ e. e.script == script) ends

-- the ends from this place on: the scripts run one at a time from the map m, no script twice
abbrev pub IsSerialHistoryFrom : List Scripted → CityMap → ℕ → List End → Type 0
IsSerialHistoryFrom scripts m place [] = Unit {0}
IsSerialHistoryFrom scripts m place (e ∷ es) =
    IsEndOf scripts m place e × NoEndOf e.script es × IsSerialHistoryFrom scripts (left_by scripts m e) (place + 1) es

abbrev pub IsSerialHistory : List Scripted → CityMap → List End → Type 0
IsSerialHistory scripts m ends = IsSerialHistoryFrom scripts m 0 ends

-- ---- changes

-- the writes of a commit: ids, each once, each with its object afterwards, or none
abbrev pub Change : Type 0
Change = List (List ℕ × Option Object)

-- the map after its pairs, one after another; for one id see `write_in` of `Writing`
abbrev pub after_change : CityMap → Change → CityMap
after_change m [] = m
after_change m (w ∷ ws) = after_change (changed m w.0 w.1) ws

-- the map after changes, one after another
abbrev pub after_changes : CityMap → List Change → CityMap
after_changes m [] = m
after_changes m (c ∷ cs) = after_changes (after_change m c) cs
