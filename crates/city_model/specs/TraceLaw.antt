-- Commands run one after another see and write only locked ids: from another map, equal to this one there, they do the
-- same.
use Rattle.std.specs.Prelude.{◌≡◌, ℕ, List, [], ◌∷◌, Bool, true, false, Option, None, Some, is_some, map, if◌then◌else◌}
use Rattle.city_model.specs.declared.command.Command.{Command}
use Rattle.city_model.specs.declared.command.Reply.{Reply}
use Rattle.city_model.specs.declared.mode.Mode.{Mode}
use Rattle.city_model.specs.declared.mode.Mode.TheVariants.{Shared, Exclusive}
use Rattle.city_model.specs.CityMap.{CityMap}
use Rattle.city_model.specs.Marks.{Marked, Snapshot, unmarked}
use Rattle.city_model.specs.Meaning.{step, locks_of}
use Rattle.city_model.specs.Relations.{IsSound}
use Rattle.city_model.specs.Runs.{Trace}
use Rattle.city_model.specs.Standing.{Held, covers, locks_id, locks_id_exclusively}

-- the mode of an id among locks, by whether they name it exclusively, and at all
abbrev pub as_named : Bool → Bool → Option Mode
as_named true named = Some Exclusive
as_named false true = Some Shared
as_named false false = None

abbrev pub stronger_of : Option Mode → Option Mode → Option Mode
stronger_of None y = y
stronger_of (Some Exclusive) y = Some Exclusive
stronger_of (Some Shared) None = Some Shared
stronger_of (Some Shared) (Some mode) = Some mode

-- the mode of each id among the commands' locks, each command's at the map before it
abbrev pub named_by : Snapshot → List Command → Held
named_by v [] q = None
named_by v (c ∷ cs) q =
    stronger_of (as_named (locks_id_exclusively (locks_of v.map c) q) (locks_id (locks_of v.map c) q))
    (named_by (step v c) cs q)

-- this map at each id held exclusively, and the other one elsewhere
abbrev pub carried_map : Held → CityMap → CityMap → CityMap
carried_map held other m = λ q. if covers (held q) Exclusive then m q else other q

abbrev pub carried_marks : Held → CityMap → List Marked → List Marked
carried_marks held other ks = map (λ k. (k.0, carried_map held other k.1)) ks

-- the same of a map and of each of its marks
abbrev pub carried : Held → CityMap → Snapshot → Snapshot
carried held other v =
    record { map = carried_map held other v.map; marks = carried_marks held other v.marks }

-- at each other sound map, equal to this one on the ids of the commands' locks, the commands get the same replies, and
-- lead to the same snapshot at each id locked exclusively, in the map and in each mark; at any other id the map and
-- each mark are as at that map's own start
abbrev pub TraceLaw : CityMap → List Command → Type 0
TraceLaw m cs = (replies : List Reply) (w : Snapshot) → Trace (unmarked m) cs replies w
    → (n : CityMap) → IsSound n
    → ((id : List ℕ) → is_some (named_by (unmarked m) cs id) ≡ true → m id ≡ n id)
    → Trace (unmarked n) cs replies (carried (named_by (unmarked m) cs) n w)
