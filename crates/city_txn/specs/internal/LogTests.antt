-- Tests of undo logs, and the writes after an entry is undone.
use Rattle.std.specs.Prelude.{◌||◌, ℕ, Bool, true, false, List, [], ◌∷◌}
use Rattle.std.specs.List.{list_any}
use Rattle.std.specs.Map.{update}
use Rattle.city_model.specs.CityMap.{CityMap, same_id}
use Rattle.city_model.specs.Marks.{Snapshot}
use Rattle.city_txn.specs.declared.undo_logs.Entry.{Entry}
use Rattle.city_txn.specs.declared.undo_logs.Entry.TheVariants.{Mark, BeforeImage}
use Rattle.city_txn.specs.UndoLog.{OwnWrites, Written, map_with, marks_with}

-- whether an entry newer than each mark keeps the write at the id, so that a new write there changes no mark
abbrev pub is_noted : List Entry → List ℕ → Bool
is_noted [] id = true
is_noted (Mark name ∷ es) id = false
is_noted (BeforeImage q own ∷ es) id = same_id q id || is_noted es id

-- whether an entry is a mark of the name
abbrev pub is_mark : List ℕ → Entry → Bool
is_mark name (Mark n) = same_id name n
is_mark name (BeforeImage id own) = false

abbrev pub has_mark : List Entry → List ℕ → Bool
has_mark es name = list_any (is_mark name) es

-- whether the newest entry is one
abbrev pub is_at_mark : List Entry → List ℕ → Bool
is_at_mark [] name = false
is_at_mark (e ∷ es) name = is_mark name e

-- the writes before an entry
abbrev pub undone : Entry → OwnWrites → OwnWrites
undone (Mark name) f = f
undone (BeforeImage id own) f = update same_id f id own

-- and before the newest one
abbrev pub newest_undone : List Entry → OwnWrites → OwnWrites
newest_undone [] f = f
newest_undone (e ∷ es) f = undone e f

-- the snapshot of the map with the writes
abbrev pub view_with : CityMap → Written → Snapshot
view_with m w = record { map = map_with m w.0; marks = marks_with m w.1 }
