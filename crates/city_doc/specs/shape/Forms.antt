-- The form of the geometries of an object, whatever its positions name (CityJSON 2.0, section 3).
use Rattle.std.specs.Prelude.{◌&&◌, nat_lt, ℕ, zero, suc, ℤ, pos, negsuc, List, Bool, true, false, Option, Some, None}
use Rattle.std.specs.Prelude.{option_and_then, codes, is_some}
use Rattle.serde_json.specs.Data.{Data, Items, no_items, item}
use Rattle.serde_json.specs.Find.{get, as_array, as_number, as_i64}
use Rattle.city_tokens.specs.tree.Members.{text_at}
use Rattle.city_tokens.specs.shape.GeometryTypes.{GeometryType, geometry_type}

-- ---- the values in a ring

abbrev pub is_number : Data → Bool
is_number d = is_some (as_number d)

abbrev pub natural : ℤ → Option ℕ
natural (pos n) = Some n
natural (negsuc n) = None

-- the position of a whole number, unless it is negative
abbrev pub position_of : Data → Option ℕ
position_of d = option_and_then natural (option_and_then as_i64 (as_number d))

abbrev pub is_below : ℕ → Option ℕ → Bool
is_below count None = false
is_below count (Some n) = nat_lt n count

-- a position with a vertex, among so many
abbrev pub is_position : ℕ → Data → Bool
is_position count d = is_below count (position_of d)

-- ---- nested lists

abbrev pub all_items : (Data → Bool) → Items → Bool
all_items test no_items = true
all_items test (item d ds) = test d && all_items test ds

abbrev pub are_items : (Data → Bool) → Option Items → Bool
are_items test None = false
are_items test (Some ds) = all_items test ds

-- an array of items that pass the test
abbrev pub is_list_of : (Data → Bool) → Data → Bool
is_list_of test d = are_items test (as_array d)

-- arrays of arrays, down to the values in rings
abbrev pub is_nested : (Data → Bool) → ℕ → Data → Bool
is_nested leaf zero = leaf
is_nested leaf (suc n) = is_list_of (is_nested leaf n)

abbrev pub are_nested_for : (Data → Bool) → Option GeometryType → Data → Bool
are_nested_for leaf None d = false
are_nested_for leaf (Some t) d = is_nested leaf t.depth d

-- the boundaries of a geometry of this type
abbrev pub is_boundaries : (Data → Bool) → List ℕ → Data → Bool
is_boundaries leaf kind d = are_nested_for leaf (geometry_type kind) d

-- ---- geometries

abbrev pub are_boundaries_of : (Data → Bool) → Option (List ℕ) → Option Data → Bool
are_boundaries_of leaf (Some kind) (Some d) = is_boundaries leaf kind d
are_boundaries_of leaf _ _ = false

-- an object with texts for its type and its level of detail, and with the boundaries of its type
abbrev pub is_geometry : (Data → Bool) → Data → Bool
is_geometry leaf d =
    is_some (text_at (codes "lod") d)
    && are_boundaries_of leaf (text_at (codes "type") d) (get (codes "boundaries") d)

-- an array of geometries; an absent one is the empty list
abbrev pub are_geometries : (Data → Bool) → Option Data → Bool
are_geometries leaf None = true
are_geometries leaf (Some d) = is_list_of (is_geometry leaf) d
