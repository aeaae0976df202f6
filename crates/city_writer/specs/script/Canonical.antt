-- Scripts as they are written, each with vertices of its own if it has points.
use Rattle.std.specs.Prelude.{ℕ, List, codes, flat_map}
use Rattle.serde_json.specs.Data.{Data, string, object, no_members, put}
use Rattle.serde_json.specs.Written.{compact_text}
use Rattle.city_model.specs.declared.object.Point.{Point}
use Rattle.city_model.specs.Runs.{Scripted}
use Rattle.city_writer.specs.Pool.{without_repeats}
use Rattle.city_writer.specs.script.Commands.{command_data, command_points}
use Rattle.city_writer.specs.shape.Vertices.{vertex_data}
use Rattle.city_writer.specs.tree.Lists.{list_data, put_list}

-- the points of the commands, in their order
abbrev pub script_points : Scripted → List Point
script_points s = flat_map command_points s.1

-- the vertices of a script, each once
abbrev pub script_pool : Scripted → List Point
script_pool s = without_repeats (script_points s)

-- the tree of a script, each point as its number in the pool
abbrev pub numbered_script : List Point → Scripted → Data
numbered_script pool s =
    object (put (codes "commands") (list_data (command_data pool) s.1)
    (put (codes "name") (string s.0) (put_list (codes "vertices") vertex_data pool no_members)))

abbrev pub script_tree : Scripted → Data
script_tree s = numbered_script (script_pool s) s

-- ---- texts

-- the tree of a text of scripts
abbrev pub scripts_tree : List Scripted → Data
scripts_tree scripts = list_data script_tree scripts

unfoldable pub scripts_text : List Scripted → List ℕ
scripts_text scripts = compact_text (scripts_tree scripts)
