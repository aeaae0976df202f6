-- The geometry of a tree, with points in place of its positions (CityJSON 2.0, section 3).
use Rattle.std.specs.Prelude.{ℕ, zero, suc, ℤ, pos, negsuc, List, Option, None, option_map, option_and_then, slice_get}
use Rattle.std.specs.Prelude.{codes}
use Rattle.serde_json.specs.Data.{Data, Members}
use Rattle.serde_json.specs.Find.{get, as_object, as_number, as_i64}
use Rattle.city_model.specs.declared.object.Point.{Point}
use Rattle.city_model.specs.declared.object.Shape.{Shape}
use Rattle.city_model.specs.declared.object.Geometry.{Geometry}
use Rattle.city_members.specs.Kept.{geometry_members, kept_at_geometry}
use Rattle.city_members.specs.Members.{without_each}
use Rattle.city_model.specs.Nesting.{Nested}
use Rattle.city_tokens.specs.shape.GeometryTypes.{geometry_type}
use Rattle.city_tokens.specs.tree.Lists.{list_of}
use Rattle.city_tokens.specs.tree.Members.{kept_if, text_at}
use Rattle.city_tokens.specs.tree.Steps.{◌>>=◌}

-- ---- boundaries

abbrev pub point_at_position : List Point → ℤ → Option Point
point_at_position points (pos n) = slice_get points n
point_at_position points (negsuc n) = None

abbrev pub point_at : List Point → Data → Option Point
point_at points d = option_and_then (point_at_position points) (option_and_then as_i64 (as_number d))

abbrev pub nested_of : List Point → (n : ℕ) → Data → Option (Nested n)
nested_of points zero = point_at points
nested_of points (suc n) = list_of (nested_of points n)

abbrev pub shape_of : List Point → List ℕ → Data → Option Shape
shape_of points kind d = do
  t ← geometry_type kind
  option_map t.shape (nested_of points t.depth d)

-- ---- geometries

-- the members, except the ones read
abbrev pub without_geometry_members : Members → Members
without_geometry_members ms = without_each geometry_members ms

abbrev pub geometry_of : List Point → Data → Option Geometry
geometry_of points d = do
  kind ← text_at (codes "type") d
  lod ← text_at (codes "lod") d
  boundaries ← get (codes "boundaries") d
  shape ← shape_of points kind boundaries
  members ← as_object d
  option_map (λ kept. record { lod = lod; shape = shape; extra = kept })
      (kept_if kept_at_geometry (without_geometry_members members))
