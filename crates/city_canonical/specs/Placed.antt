-- Boundaries with the vertices themselves in place of their indices (CityJSON 2.0, sections 2 and 3).
use Rattle.std.specs.Prelude.{ℕ, List, Option, Some, None, option_and_then}
use Rattle.json.specs.Json.{Json, null, boolean, number, string, array, object, Items, no_items, item}
use Rattle.json.specs.Find.{get, get_item, as_array}
use Rattle.serde_json.specs.Find.{as_i64}
use Rattle.serde_json.specs.Read.{number_of}
use Rattle.city_doc.specs.shape.Forms.{natural}

abbrev pub or_empty : Option Items → Items
or_empty None = no_items
or_empty (Some js) = js

-- the items of the list under a name; none if there is no list
abbrev pub list_at : List ℕ → Json → Items
list_at name j = or_empty (option_and_then as_array (get name j))

-- the vertex at the index given by a number
abbrev pub vertex_at : Items → List ℕ → Option Json
vertex_at vertices s =
    option_and_then (λ n. get_item n vertices) (option_and_then natural (option_and_then as_i64 (number_of s)))

abbrev pub or_number : List ℕ → Option Json → Json
or_number s None = number s
or_number s (Some j) = j

-- the vertex in place of each index
abbrev mutual
  pub placed : Items → Json → Json
  placed vertices null = null
  placed vertices (boolean b) = boolean b
  placed vertices (number s) = or_number s (vertex_at vertices s)
  placed vertices (string s) = string s
  placed vertices (array js) = array (placed_items vertices js)
  placed vertices (object ms) = object ms

  pub placed_items : Items → Items → Items
  placed_items vertices no_items = no_items
  placed_items vertices (item j js) = item (placed vertices j) (placed_items vertices js)
