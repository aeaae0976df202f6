-- The scripts of a tree, and of a text.
use Rattle.std.specs.Prelude.{◌==◌, ◌&&◌, ◌||◌, ℕ, nat_lt, List, [], ◌∷◌, length, Bool, true, false, Option}
use Rattle.std.specs.Prelude.{Some, None, option_map, option_and_then, codes, if◌then◌else◌, ◌≡◌}
use Rattle.std.specs.List.{list_any}
use Rattle.std.specs.Str.{bytes_eq}
use Rattle.serde_json.specs.Data.{Data, Members}
use Rattle.serde_json.specs.Find.{get_member, as_str, as_object}
use Rattle.city_model.specs.declared.object.Point.{Point}
use Rattle.city_model.specs.Runs.{Scripted}
use Rattle.city_members.specs.Members.{members_count}
use Rattle.city_members.specs.Integral.{is_integral}
use Rattle.city_tokens.specs.script.CommandForms.{text_in}
use Rattle.city_tokens.specs.script.Commands.{command_of}
use Rattle.city_tokens.specs.tree.Triples.{points_of, are_triples}
use Rattle.city_tokens.specs.tree.Lists.{array_of, all_read}
use Rattle.city_tokens.specs.tree.Steps.{◌>>=◌}
use Rattle.city_tokens.specs.tree.Texts.{HasTree}

-- ---- the form of a script

abbrev pub is_end_text : Option (List ℕ) → Bool
is_end_text None = false
is_end_text (Some s) = bytes_eq s (codes "commit") || bytes_eq s (codes "abort")

-- the tree is a word to end a script
abbrev pub is_end_word : Data → Bool
is_end_word d = is_end_text (as_str d)

abbrev pub is_last : List Data → Bool
is_last [] = true
is_last (d ∷ ds) = false

-- exactly the last of the trees is such a word
abbrev pub word_ends : List Data → Bool
word_ends [] = false
word_ends (d ∷ ds) = if is_end_word d then is_last ds else word_ends ds

-- the parts of a script: its name, the trees of its commands, and the tree of its vertices, if it has any
pub record ScriptParts : Type 0 where
  pub name : List ℕ
  pub commands : List Data
  pub vertices : Option Data

-- how many members a script with these vertices has
abbrev pub members_wanted : Option Data → ℕ
members_wanted None = 2
members_wanted (Some d) = 3

-- an array of arrays of three numbers, or absent
abbrev pub are_vertices : Option Data → Bool
are_vertices None = true
are_vertices (Some d) = are_triples d

-- the commands, if exactly the last ends the script
abbrev pub ended : List Data → Option (List Data)
ended ds = if word_ends ds then Some ds else None

abbrev pub commands_in : Members → Option (List Data)
commands_in ms = option_and_then ended (option_and_then array_of (get_member (codes "commands") ms))

-- just `name`, `commands` and perhaps `vertices`
abbrev pub has_script_members : Members → Bool
has_script_members ms =
    (members_count ms == members_wanted (get_member (codes "vertices") ms))
    && are_vertices (get_member (codes "vertices") ms)

abbrev pub parts_in : Members → Option ScriptParts
parts_in ms = do
  name ← text_in (codes "name") ms
  option_map (λ commands. record { name = name; commands = commands; vertices = get_member (codes "vertices") ms })
      (commands_in ms)

abbrev pub parts_if : Members → Option ScriptParts
parts_if ms = if has_script_members ms then parts_in ms else None

-- the parts of a script, if the tree has the form of one
abbrev pub parts_of : Data → Option ScriptParts
parts_of d = option_and_then parts_if (as_object d)

-- ---- scripts

abbrev pub vertex_points : Option Data → Option (List Point)
vertex_points None = Some []
vertex_points (Some d) = points_of d

abbrev pub count_of : Option (List Data) → ℕ
count_of None = 0
count_of (Some ds) = length ds

-- how many vertices there are
abbrev pub vertex_count : Option Data → ℕ
vertex_count None = 0
vertex_count (Some d) = count_of (array_of d)

-- the script of these parts: positions count in its own vertices
abbrev pub script_of : ScriptParts → Option Scripted
script_of p = do
  points ← vertex_points p.vertices
  option_map (λ commands. (p.name, commands)) (all_read (command_of points) p.commands)

abbrev pub max_scripts : ℕ
max_scripts = 4096

abbrev pub max_commands : ℕ
max_commands = 1024

-- there are too many scripts, or too many commands in one
abbrev pub are_too_many : List ScriptParts → Bool
are_too_many ps = nat_lt max_scripts (length ps) || list_any (λ p. nat_lt max_commands (length p.commands)) ps

abbrev pub scripts_of_parts : List ScriptParts → Option (List Scripted)
scripts_of_parts ps = if are_too_many ps then None else all_read script_of ps

-- an array of scripts
abbrev pub scripts_of : Data → Option (List Scripted)
scripts_of d = option_and_then scripts_of_parts (option_and_then (all_read parts_of) (array_of d))

-- the text isn't too long, all its numbers are whole, and it stands for these scripts
abbrev pub IsReadAs : List ℕ → List Scripted → Type 0
IsReadAs text scripts = (d : Data) × HasTree text d × (is_integral d ≡ true) × (scripts_of d ≡ Some scripts)
