-- The object of a tree, with points in place of its positions (CityJSON 2.0, sections 2 and 3).
use Rattle.std.specs.Prelude.{ℕ, List, Option, option_map, option_and_then, codes}
use Rattle.serde_json.specs.Data.{Data, Members}
use Rattle.serde_json.specs.Find.{get, as_str, as_object}
use Rattle.city_model.specs.declared.object.Point.{Point}
use Rattle.city_model.specs.declared.object.Body.{Body}
use Rattle.city_model.specs.declared.object.Object.{Object}
use Rattle.city_model.specs.declared.object_type.ObjectType.{ObjectType}
use Rattle.city_model.specs.Types.{type_named}
use Rattle.city_members.specs.Kept.{object_members, kept_at_object}
use Rattle.city_members.specs.Members.{without_each}
use Rattle.city_tokens.specs.tree.Lists.{list_or_absent}
use Rattle.city_tokens.specs.tree.Members.{kept_if, text_at}
use Rattle.city_tokens.specs.tree.Steps.{◌>>=◌}
use Rattle.city_tokens.specs.shape.Geometries.{geometry_of}

-- the members, except the ones read
abbrev pub without_object_members : Members → Members
without_object_members ms = without_each object_members ms

abbrev pub type_of : Data → Option ObjectType
type_of d = option_and_then type_named (text_at (codes "type") d)

abbrev pub body_of : List Point → Data → Option Body
body_of points d = do
  kind ← type_of d
  members ← as_object d
  geometry ← list_or_absent (geometry_of points) (get (codes "geometry") d)
  option_map (λ kept. record { kind = kind; geometry = geometry; extra = kept })
      (kept_if kept_at_object (without_object_members members))

abbrev pub ids_at : List ℕ → Data → Option (List (List ℕ))
ids_at name d = list_or_absent as_str (get name d)

abbrev pub object_of : List Point → Data → Option Object
object_of points d = do
  body ← body_of points d
  parents ← ids_at (codes "parents") d
  option_map (λ children. record { body = body; parents = parents; children = children })
      (ids_at (codes "children") d)
