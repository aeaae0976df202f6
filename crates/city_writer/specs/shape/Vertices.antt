-- Vertices as they are written (CityJSON 2.0, section 2), and the range of their numbers.
use Rattle.std.specs.Prelude.{◌&&◌, List, [], ◌∷◌, Bool}
use Rattle.serde_json.specs.Data.{Data}
use Rattle.city_model.specs.declared.object.Point.{Point}
use Rattle.city_writer.specs.tree.Lists.{list_data}
use Rattle.city_writer.specs.tree.Lists.{triple_data}
use Rattle.city_writer.specs.tree.Ranges.{is_i64}

abbrev pub vertex_data : Point → Data
vertex_data p = triple_data (p.x ∷ p.y ∷ p.z ∷ [])

abbrev pub vertices_data : List Point → Data
vertices_data pool = list_data vertex_data pool

abbrev pub is_i64_point : Point → Bool
is_i64_point p = is_i64 p.x && is_i64 p.y && is_i64 p.z
