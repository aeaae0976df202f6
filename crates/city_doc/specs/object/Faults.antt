-- The faults of the tree of one object.
use Rattle.std.specs.Prelude.{◌||◌, not, ℕ, List, [], ◌∷◌, Bool, Option, Some, None, option_and_then, codes}
use Rattle.std.specs.Prelude.{is_none, if◌then◌else◌}
use Rattle.std.specs.Option.{option_or}
use Rattle.std.specs.List.{list_any}
use Rattle.std.specs.Str.{bytes_eq}
use Rattle.serde_json.specs.Data.{Data, Items, no_items, item}
use Rattle.serde_json.specs.Find.{get, as_array}
use Rattle.city_members.specs.Kept.{has_location}
use Rattle.city_tokens.specs.tree.Members.{text_at}
use Rattle.city_tokens.specs.object.Bodies.{type_of, ids_at}
use Rattle.city_doc.specs.shape.Forms.{is_number, is_position, are_geometries}

-- the type is missing, is no text, or is unknown
abbrev pub is_unknown_type : Data → Bool
is_unknown_type d = is_none (type_of d)

-- ---- unsupported things

-- unsupported types of geometry
abbrev pub unsupported_types : List (List ℕ)
unsupported_types =
    codes "MultiPoint" ∷ codes "MultiLineString" ∷ codes "GeometryInstance" ∷ []

abbrev pub only_if : {A : Type 0} → (A → Bool) → A → Option A
only_if test x = if test x then Some x else None

-- the type of a geometry, if it is unsupported
abbrev pub unsupported_type : Data → Option (List ℕ)
unsupported_type d =
    option_and_then (only_if (λ kind. list_any (bytes_eq kind) unsupported_types))
    (text_at (codes "type") d)

abbrev pub first_unsupported : Items → Option (List ℕ)
first_unsupported no_items = None
first_unsupported (item d ds) = option_or (unsupported_type d) (first_unsupported ds)

-- an address with a location, or the first geometry of an unsupported type
abbrev pub unsupported_name : Data → Option (List ℕ)
unsupported_name d =
    if has_location (get (codes "address") d) then Some (codes "location")
    else option_and_then first_unsupported (option_and_then as_array (get (codes "geometry") d))

-- ---- geometries

-- `geometry` is there and isn't an array of geometries with numbers in their rings
abbrev pub is_bad_geometry : Data → Bool
is_bad_geometry d = not (are_geometries is_number (get (codes "geometry") d))

-- of geometries of a right form: a position that is negative, or isn't less than the count
abbrev pub has_bad_vertex : ℕ → Data → Bool
has_bad_vertex count d = not (are_geometries (is_position count) (get (codes "geometry") d))

-- ---- relations

-- `parents` or `children` is there and isn't an array of texts
abbrev pub has_bad_list : Data → Bool
has_bad_list d = is_none (ids_at (codes "parents") d) || is_none (ids_at (codes "children") d)
