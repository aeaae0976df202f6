-- The snapshot of a running script: a map, and the marks to go back to.
use Rattle.std.specs.Prelude.{ℕ, List, [], ◌∷◌, if◌then◌else◌}
use Rattle.city_model.specs.CityMap.{CityMap, same_id}
use Rattle.city_model.specs.Relations.{IsSound}

-- a mark: its name, and the map of its time
abbrev pub Marked : Type 0
Marked = List ℕ × CityMap

-- the map, and the marks, newest first
pub record Snapshot : Type 0 where
  pub map : CityMap
  pub marks : List Marked

-- the map without marks
abbrev pub unmarked : CityMap → Snapshot
unmarked m = record { map = m; marks = [] }

-- another map with the same marks
abbrev pub with_map : Snapshot → CityMap → Snapshot
with_map v m = record { map = m; marks = v.marks }

-- the newest mark of the name and the marks before it
abbrev pub marks_from : {X : Type 0} → List ℕ → List (List ℕ × X) → List (List ℕ × X)
marks_from name [] = []
marks_from name (k ∷ ks) = if same_id name k.0 then k ∷ ks else marks_from name ks

-- every mark's map is sound
abbrev pub AreSound : List Marked → Type 0
AreSound [] = Unit {0}
AreSound (k ∷ ks) = IsSound k.1 × AreSound ks

abbrev pub IsSoundView : Snapshot → Type 0
IsSoundView v = IsSound v.map × AreSound v.marks
