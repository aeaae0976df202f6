-- The undo logs of open transactions: their marks, and the earlier write at each id written again.
use Rattle.std.specs.Prelude.{ℕ, Bool, false, List, [], ◌∷◌, Option, Some, map, reverse, unwrap_or, if◌then◌else◌}
use Rattle.std.specs.List.{list_any}
use Rattle.std.specs.Map.{lookup, update}
use Rattle.std.specs.Ordering.{nat_cmp}
use Rattle.std.specs.BTreeMap.{is_at}
use Rattle.city_model.specs.declared.object.Object.{Object}
use Rattle.city_model.specs.CityMap.{CityMap, same_id, has_id}
use Rattle.city_model.specs.Actions.{Action, Edits, Marks, GoesBack}
use Rattle.city_model.specs.Marks.{Marked, marks_from}
use Rattle.city_txn.specs.declared.undo_logs.Entry.{Entry}
use Rattle.city_txn.specs.declared.undo_logs.Entry.TheVariants.{Mark, BeforeImage}

-- the logs by stamps, the entries of each newest last
abbrev pub Logs : Type 0
Logs = List (ℕ × List Entry)

-- the log of a transaction, newest entry first; empty if it has no marks
abbrev pub log_of : Logs → ℕ → List Entry
log_of logs stamp = reverse (unwrap_or (lookup (is_at (nat_cmp stamp)) logs) [])

-- the transaction's write at each id: nothing, an object, or a delete
abbrev pub OwnWrites : Type 0
OwnWrites = List ℕ → Option (Option Object)

-- the marks, newest first, each with the transaction's writes at the mark; f is its current writes
abbrev pub marked : List Entry → OwnWrites → List (List ℕ × OwnWrites)
marked [] f = []
marked (Mark name ∷ es) f = (name, f) ∷ marked es f
marked (BeforeImage id own ∷ es) f = marked es (update same_id f id own)

-- whether an entry keeps an earlier write at the id
abbrev pub is_before : List ℕ → Entry → Bool
is_before id (Mark name) = false
is_before id (BeforeImage q own) = same_id q id

abbrev pub has_before : List Entry → List ℕ → Bool
has_before es id = list_any (is_before id) es

-- ---- a transaction's writes, with its marks

-- its current writes, and its writes at each mark, newest first
abbrev pub Written : Type 0
Written = OwnWrites × List (List ℕ × OwnWrites)

abbrev pub written_at_mark : Written → List (List ℕ × OwnWrites) → Written
written_at_mark w [] = w
written_at_mark w (k ∷ ks) = (k.1, k ∷ ks)

-- the writes, with the map's objects at these ids
abbrev pub own_with : OwnWrites → List (List ℕ) → CityMap → OwnWrites
own_with f ids m id = if has_id ids id then Some (m id) else f id

-- the writes after an action: an edit writes its ids, a mark has the current writes, and going back restores the writes
-- of the mark
abbrev pub written_by : Action → Written → Written
written_by (Edits reply ids m) w = (own_with w.0 ids m, w.1)
written_by (Marks name) w = (w.0, (name, w.0) ∷ w.1)
written_by (GoesBack name) w = written_at_mark w (marks_from name w.1)
written_by action w = w

-- the map with the writes
abbrev pub map_with : CityMap → OwnWrites → CityMap
map_with m f = λ id. unwrap_or (f id) (m id)

abbrev pub marks_with : CityMap → List (List ℕ × OwnWrites) → List Marked
marks_with m ks = map (λ k. (k.0, map_with m k.1)) ks
