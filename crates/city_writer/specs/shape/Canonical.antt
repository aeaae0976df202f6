-- Geometries as they are written, each point a number (CityJSON 2.0, section 3).
use Rattle.std.specs.Prelude.{ℕ, zero, suc, List, codes}
use Rattle.serde_json.specs.Data.{Data, number, unsigned, string, object, put}
use Rattle.city_model.specs.declared.object.Point.{Point}
use Rattle.city_model.specs.declared.object.Shape.{Shape}
use Rattle.city_model.specs.declared.object.Geometry.{Geometry}
use Rattle.city_model.specs.Nesting.{Nested, nested, shape_name}
use Rattle.city_writer.specs.Pool.{number_of}
use Rattle.city_writer.specs.tree.Lists.{list_data}

abbrev pub point_data : List Point → Point → Data
point_data pool p = number (unsigned (number_of pool p))

-- arrays of arrays, down to points
abbrev pub nested_data : List Point → (n : ℕ) → Nested n → Data
nested_data pool zero = point_data pool
nested_data pool (suc n) = list_data (nested_data pool n)

abbrev pub boundaries_data : List Point → Shape → Data
boundaries_data pool shape = let b = nested shape in nested_data pool b.0 b.1

abbrev pub geometry_data : List Point → Geometry → Data
geometry_data pool g =
    object (put (codes "boundaries") (boundaries_data pool g.shape)
    (put (codes "lod") (string g.lod)
    (put (codes "type") (string (shape_name g.shape)) g.extra)))
