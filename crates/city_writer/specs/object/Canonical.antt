-- Objects as they are written, keys in byte order (CityJSON 2.0, section 2).
use Rattle.std.specs.Prelude.{List, [], ◌∷◌, codes}
use Rattle.serde_json.specs.Data.{Data, string, object, Members, no_members, put}
use Rattle.city_model.specs.declared.object.Point.{Point}
use Rattle.city_model.specs.declared.object.Object.{Object}
use Rattle.city_model.specs.CityMap.{Entries}
use Rattle.city_model.specs.Types.{name_of}
use Rattle.city_writer.specs.shape.Canonical.{geometry_data}
use Rattle.city_writer.specs.tree.Lists.{put_list}

abbrev pub object_data : List Point → Object → Data
object_data pool o =
    object (put_list (codes "children") string o.children
    (put_list (codes "parents") string o.parents
    (put_list (codes "geometry") (geometry_data pool) o.body.geometry
    (put (codes "type") (string (name_of o.body.kind)) o.body.extra))))

-- the members with the objects, each under its id
abbrev pub with_objects : List Point → Members → Entries → Members
with_objects pool ms [] = ms
with_objects pool ms (e ∷ es) = with_objects pool (put e.0 (object_data pool e.1) ms) es

abbrev pub objects_data : List Point → Entries → Data
objects_data pool es = object (with_objects pool no_members es)
