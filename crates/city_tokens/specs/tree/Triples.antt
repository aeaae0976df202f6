-- Three whole numbers, as a point or as a scale has them (CityJSON 2.0, section 4).
use Rattle.std.specs.Prelude.{◌&&◌, ℕ, ℤ, List, [], ◌∷◌, Bool, true, false, Option, Some, None, option_and_then}
use Rattle.std.specs.Prelude.{option_map, is_some, if◌then◌else◌}
use Rattle.serde_json.specs.Data.{Data, Items, no_items, item}
use Rattle.serde_json.specs.Find.{at, as_array, as_number, as_i64}
use Rattle.city_model.specs.declared.object.Point.{Point}
use Rattle.city_tokens.specs.tree.Lists.{list_of}

-- the whole number at index i
abbrev pub integral_at : ℕ → Data → Option ℤ
integral_at i d = option_and_then as_i64 (option_and_then as_number (at i d))

-- the value made of an array of three whole numbers
abbrev pub three_of : {A : Type 0} → (ℤ → ℤ → ℤ → A) → Data → Option A
three_of make d =
    if is_some (at 3 d) then None
    else option_and_then (λ x. option_and_then (λ y. option_map (λ z. make x y z)
    (integral_at 2 d)) (integral_at 1 d)) (integral_at 0 d)

abbrev pub triple_of : Data → Option (List ℤ)
triple_of d = three_of (λ x y z. x ∷ y ∷ z ∷ []) d

abbrev pub point_of : Data → Option Point
point_of d = three_of (λ x y z. record { x = x; y = y; z = z }) d

-- the points of a list of vertices
abbrev pub points_of : Data → Option (List Point)
points_of d = list_of point_of d

abbrev pub all_triples : Items → Bool
all_triples no_items = true
all_triples (item d ds) = is_some (triple_of d) && all_triples ds

abbrev pub are_all_triples : Option Items → Bool
are_all_triples None = false
are_all_triples (Some ds) = all_triples ds

-- an array of arrays of three whole numbers
abbrev pub are_triples : Data → Bool
are_triples d = are_all_triples (as_array d)
