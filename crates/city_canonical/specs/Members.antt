-- Unchanged members, their names in order.
use Rattle.std.specs.Prelude.{◌≡◌, ℕ, List, Bool, true, false, Option, Some, None, option_map, if◌then◌else◌}
use Rattle.std.specs.declared.cmp.Ordering.TheVariants.{Less}
use Rattle.std.specs.Ordering.{nat_cmp}
use Rattle.std.specs.Cmp.Lexicographic.{slice_cmp}
use Rattle.json.specs.Json.{Json, null, boolean, number, string, array, object, no_items, item}
use Rattle.json.specs.Json.{Members, no_members, member}
use Rattle.json.specs.Find.{get}
use Rattle.city_model.specs.CityMap.{has_id}
use Rattle.city_decimals.specs.Arranged.{arranged}

-- the same value under the name, its own names in order, or none in either
abbrev pub IsSameAt : Json → Json → List ℕ → Type 0
IsSameAt j k name = get name k ≡ option_map arranged (get name j)

-- under all other names than these
abbrev pub IsSameBeside : List (List ℕ) → Json → Json → Type 0
IsSameBeside names j k = (name : List ℕ) → has_id names name ≡ false → IsSameAt j k name

-- ---- lists left out if empty

abbrev pub is_empty_list : Json → Bool
is_empty_list null = false
is_empty_list (boolean b) = false
is_empty_list (number s) = false
is_empty_list (string s) = false
is_empty_list (array no_items) = true
is_empty_list (array (item j js)) = false
is_empty_list (object ms) = false

abbrev pub unless_empty : Option Json → Option Json
unless_empty None = None
unless_empty (Some j) = if is_empty_list j then None else Some j

-- the same list under the name, or none if it is empty
abbrev pub IsSameList : Json → Json → List ℕ → Type 0
IsSameList j k name = get name k ≡ unless_empty (get name j)

-- ---- names in order

abbrev pub IsBelow : List ℕ → Members → Type 0
IsBelow k no_members = Unit {0}
IsBelow k (member l j ms) = (slice_cmp nat_cmp k l ≡ Less) × IsBelow k ms

abbrev pub Ascend : Members → Type 0
Ascend no_members = Unit {0}
Ascend (member k j ms) = IsBelow k ms × Ascend ms

-- an object with ascending names, so without repeats
abbrev pub IsInOrder : Json → Type 0
IsInOrder null = ⊥
IsInOrder (boolean b) = ⊥
IsInOrder (number s) = ⊥
IsInOrder (string s) = ⊥
IsInOrder (array js) = ⊥
IsInOrder (object ms) = Ascend ms
