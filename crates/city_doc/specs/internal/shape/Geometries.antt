-- The parts of a geometry, in the order of its building: the shape first.
use Rattle.std.specs.Prelude.{List, Option, option_map, option_and_then, codes}
use Rattle.serde_json.specs.Data.{Data, Members}
use Rattle.serde_json.specs.Find.{get, get_member, as_str}
use Rattle.city_model.specs.declared.object.Geometry.{Geometry}
use Rattle.city_model.specs.declared.object.Point.{Point}
use Rattle.city_model.specs.declared.object.Shape.{Shape}
use Rattle.city_members.specs.Kept.{kept_at_geometry}
use Rattle.city_tokens.specs.shape.Geometries.{shape_of, without_geometry_members}
use Rattle.city_tokens.specs.tree.Members.{kept_if, text_at}
use Rattle.city_tokens.specs.tree.Steps.{◌>>=◌}

-- the shape of the type and the boundaries of a tree
abbrev pub shape_in : List Point → Data → Option Shape
shape_in points d = do
  kind ← text_at (codes "type") d
  boundaries ← get (codes "boundaries") d
  shape_of points kind boundaries

-- the geometry of this shape, of the members of its tree
abbrev pub geometry_with : Shape → Members → Option Geometry
geometry_with shape ms = do
  lod ← option_and_then as_str (get_member (codes "lod") ms)
  option_map (λ kept. record { lod = lod; shape = shape; extra = kept })
      (kept_if kept_at_geometry (without_geometry_members ms))
