-- The canonical text of a city: compact JSON, keys in byte order, each point a number
-- (CityJSON 2.0, sections 2 and 3).
use Rattle.std.specs.Prelude.{ℕ, List, codes}
use Rattle.std.specs.FinMap.{entries}
use Rattle.serde_json.specs.Data.{Data, string, object, Members, put}
use Rattle.serde_json.specs.Written.{compact_text}
use Rattle.city_model.specs.declared.frame.Frame.{Frame}
use Rattle.city_model.specs.declared.object.Point.{Point}
use Rattle.city_model.specs.CityMap.{CityValue}
use Rattle.city_writer.specs.Pool.{pool_of}
use Rattle.city_writer.specs.tree.Lists.{triple_data}
use Rattle.city_writer.specs.object.Canonical.{objects_data}
use Rattle.city_writer.specs.shape.Vertices.{vertices_data}

abbrev pub transform_data : Frame → Data
transform_data f =
    object (put (codes "translate") (triple_data f.translate)
    (put (codes "scale") (triple_data f.scale) f.more))

-- the members of a frame at the top
abbrev pub frame_members : Frame → Members
frame_members f =
    put (codes "transform") (transform_data f)
    (put (codes "version") (string (codes "2.0"))
    (put (codes "type") (string (codes "CityJSON")) f.extra))

-- the tree of a city, each point as its number in the pool
abbrev pub numbered_tree : List Point → CityValue → Data
numbered_tree pool c =
    object (put (codes "CityObjects") (objects_data pool (entries c.1))
    (put (codes "vertices") (vertices_data pool) (frame_members c.0)))

abbrev pub tree_of : CityValue → Data
tree_of c = numbered_tree (pool_of c) c

unfoldable pub city_text : CityValue → List ℕ
city_text c = compact_text (tree_of c)
