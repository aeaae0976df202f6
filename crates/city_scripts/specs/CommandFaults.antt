-- The faults of commands.
use Rattle.std.specs.Prelude.{◌||◌, ℕ, Bool, true, false, Option, Some, None, is_none, is_some}
use Rattle.serde_json.specs.Data.{Data}
use Rattle.serde_json.specs.Find.{as_object}
use Rattle.city_doc.specs.object.Faults.{is_unknown_type, unsupported_name, is_bad_geometry, has_bad_vertex}
use Rattle.city_tokens.specs.script.CommandForms.{CommandForm, form_of, object_tree, geometry_tree}
use Rattle.city_tokens.specs.script.Commands.{names_relations}

-- ---- commands without a meaning

-- its type is unknown, something in it isn't supported, or a geometry can't be read
abbrev pub is_unreadable : Data → Bool
is_unreadable d = is_unknown_type d || is_some (unsupported_name d) || is_bad_geometry d

-- the given tree isn't an object, names parents or children, or can't be read
abbrev pub is_bad_object : Data → Bool
is_bad_object d = is_none (as_object d) || names_relations d || is_unreadable d

abbrev pub has_bad_object : Option Data → Bool
has_bad_object None = false
has_bad_object (Some tree) = is_bad_object tree

-- a geometry in the tree can't be read, be it for its type
abbrev pub has_bad_geometry : Option Data → Bool
has_bad_geometry None = false
has_bad_geometry (Some tree) = is_bad_geometry tree

abbrev pub is_no_good_form : Option CommandForm → Bool
is_no_good_form None = true
is_no_good_form (Some f) = has_bad_object (object_tree f) || has_bad_geometry (geometry_tree f)

-- the tree has the form of no command, or gives a bad object or bad geometries
abbrev pub is_bad_command : Data → Bool
is_bad_command d = is_no_good_form (form_of d)

-- ---- positions

-- the tree has a position without a vertex, among so many
abbrev pub names_vertex_beyond : ℕ → Option Data → Bool
names_vertex_beyond count None = false
names_vertex_beyond count (Some tree) = has_bad_vertex count tree

abbrev pub form_names_bad_vertex : ℕ → Option CommandForm → Bool
form_names_bad_vertex count None = false
form_names_bad_vertex count (Some f) =
    names_vertex_beyond count (object_tree f) || names_vertex_beyond count (geometry_tree f)

-- a position in the command is negative, or not less than the number of vertices
abbrev pub names_bad_vertex : ℕ → Data → Bool
names_bad_vertex count d = form_names_bad_vertex count (form_of d)
