-- The tree of a script is read as the script.
use Rattle.city_scripts.proofs.Prelude.{◌≡◌, ◌<◌, ◌≤◌, ◌∙◌, ℕ, List, [], ◌∷◌, length, map, true, false, Option}
use Rattle.city_scripts.proofs.Prelude.{Some, None, refl, sym, ap, ap₂, arith, is_some, option_map, option_and_then}
use Rattle.city_scripts.proofs.Prelude.{codes, list_all, and_parts, Data, Members, get, get_member, object, string, put}
use Rattle.city_scripts.proofs.Prelude.{no_members, as_str, Point, Body, Command, Scripted, body_of, command_of}
use Rattle.city_scripts.proofs.Prelude.{all_read, script_of_item, ScriptParts, parts_of, word_ends}
use Rattle.std.proofs.Common.{◌^◌, flat_map}
use Rattle.std.specs.List.{AllByRecursion}
use Rattle.std.specs.Prelude.{◌||◌}
use Rattle.std.proofs.lemmas.List.{length-map}
use Rattle.std.proofs.lemmas.List.Folds.{list_all-append}
use Rattle.city_members.specs.Kept.{kept_at_attributes, kept_at_object}
use Rattle.city_model.specs.declared.command.Command.TheVariants.{Read, Put, Add, Set, Unset, Reshape, Expect}
use Rattle.city_model.specs.declared.command.Command.TheVariants.{Delete, Attach, Detach, Mark, Back, Commit, Abort}
use Rattle.city_model.specs.CityMap.{same_id}
use Rattle.city_model.specs.Types.{name_of}
use Rattle.city_model.specs.declared.object.Object.{Object}
use Rattle.city_tokens.proofs.Laws.{get_member-put_apart, are_triples-read, items_list-of, ends_once-read, built_few}
use Rattle.city_tokens.specs.internal.ScriptItems.{fit_script_of}
use Rattle.city_tokens.specs.object.Bodies.{object_of}
use Rattle.city_tokens.specs.script.Commands.{unrelated_body, names_relations}
use Rattle.city_tokens.specs.script.Scripts.{are_vertices, vertex_points, script_of, scripts_of, max_commands}
use Rattle.city_tokens.specs.shape.Geometries.{geometry_of}
use Rattle.city_tokens.specs.tree.Lists.{array_of}
use Rattle.city_writer.proofs.Laws.{are_in, parts_in, points_in_pool, object_members_lacking}
use Rattle.city_writer.specs.Pool.{geometry_points, object_points}
use Rattle.city_writer.specs.internal.document.KeptMembers.{is_kept_geometry, is_kept_object}
use Rattle.city_writer.specs.internal.script.KeptMembers.{is_kept_command, are_kept_commands}
use Rattle.city_writer.specs.internal.tree.PartTokens.{listed}
use Rattle.city_writer.specs.script.Canonical.{numbered_script, script_pool, script_points, script_tree}
use Rattle.city_writer.specs.script.Canonical.{scripts_tree}
use Rattle.city_writer.specs.script.Commands.{body_data, command_data, command_points, unrelated}
use Rattle.city_writer.specs.script.Texts.{IsWritable}
use Rattle.city_writer.specs.shape.Canonical.{geometry_data}
use Rattle.city_writer.specs.shape.Vertices.{vertex_data, is_i64_point}
use Rattle.city_writer.specs.tree.Lists.{list_data}
use Rattle.city_scripts.specs.WrittenScripts.{AreFew, IsShort}
use Rattle.city_doc.proofs.Laws.{get_member-put_list_apart, all_pass, both_all, geometry_read, kept_all, list_read}
use Rattle.city_doc.proofs.Laws.{object_read, vertices_read}

-- ---- commands

object_body : (points : List Point) (d : Data) (o : Object) → object_of points d ≡ Some o
    → body_of points d ≡ Some o.body
object_body points d o h = grind arith

own_apart : (name : List ℕ) (pool : List Point) (body : Body) → same_id name (codes "geometry") ≡ false
    → same_id name (codes "type") ≡ false → get name (body_data pool body) ≡ get_member name body.extra
own_apart name pool body geometry type =
    let kind = string (name_of body.kind) in
    get_member-put_list_apart name (codes "geometry") (geometry_data pool) body.geometry
    (put (codes "type") kind body.extra) geometry
    ∙ get_member-put_apart name (codes "type") kind body.extra type

alone : (pool : List Point) (body : Body) → is_kept_object (unrelated body) ≡ true
    → names_relations (body_data pool body) ≡ false
unfolding is_kept_object
alone pool body keeps =
    let hs = and_parts (kept_at_object body.extra) (list_all is_kept_geometry body.geometry) keeps in
    let lacks = object_members_lacking body.extra hs.0 in
    ap₂ (λ parents children. is_some parents || is_some children)
    (own_apart (codes "parents") pool body refl refl ∙ lacks.no_parents)
    (own_apart (codes "children") pool body refl refl ∙ lacks.no_children)

module _ (pool : List Point) (small : length pool < 2 ^ 63) where
  body_read : (body : Body) → is_kept_object (unrelated body) ≡ true
      → are_in pool (object_points (unrelated body)) ≡ true
      → unrelated_body pool (body_data pool body) ≡ Some body
  body_read body keeps points =
      rw (alone pool body keeps)
      (object_body pool (body_data pool body) (unrelated body) (object_read pool (unrelated body) small keeps points))

  command_read : (c : Command) → is_kept_command c ≡ true → are_in pool (command_points c) ≡ true
      → command_of pool (command_data pool c) ≡ Some c
  unfolding is_kept_command
  command_read (Put id body) keeps points = ap (option_map (Put id)) (body_read body keeps points)
  command_read (Add id body) keeps points = ap (option_map (Add id)) (body_read body keeps points)
  command_read (Set id values) keeps points = ap (option_map (Set id)) (kept_all kept_at_attributes values keeps)
  command_read (Unset id names) keeps points =
      rw (list_read as_str string (λ s. true) (λ s h. refl) names (all_pass names)) refl
  command_read (Reshape id geometry) keeps points =
      ap (option_map (Reshape id)) (list_read (geometry_of pool) (geometry_data pool) _ (geometry_read pool small)
      geometry (both_all is_kept_geometry (λ g. are_in pool (geometry_points g)) geometry keeps
      (parts_in pool geometry_points geometry points)))
  command_read (Expect id values) keeps points =
      ap (option_map (Expect id)) (kept_all kept_at_attributes values keeps)
  command_read (Read id) keeps points = refl
  command_read (Delete id) keeps points = refl
  command_read (Attach child parent) keeps points = refl
  command_read (Detach child parent) keeps points = refl
  command_read (Mark name) keeps points = refl
  command_read (Back name) keeps points = refl
  command_read Commit keeps points = refl
  command_read Abort keeps points = refl

  commands_read : (cs : List Command) → are_kept_commands cs ≡ true → are_in pool (flat_map command_points cs) ≡ true
      → all_read (command_of pool) (map (command_data pool) cs) ≡ Some cs
  commands_read [] keeps points = refl
  commands_read (c ∷ cs) keeps points =
      let ks = and_parts (is_kept_command c) (are_kept_commands cs) keeps in
      let ps = and_parts (are_in pool (command_points c)) (are_in pool (flat_map command_points cs))
      (sym (list_all-append _ (command_points c) (flat_map command_points cs)) ∙ points) in
      rw (command_read c ks.0 ps.0, commands_read cs ks.1 ps.1) refl

-- ---- scripts

fits : (p : ScriptParts) → length p.commands ≤ max_commands → fit_script_of p ≡ script_of p
fits p few = grind arith

abbrev put_vertices : Option Data → Members
put_vertices None = no_members
put_vertices (Some d) = put (codes "vertices") d no_members

parts_with : (name : List ℕ) (d : Data) (cs : List Data) (v : Option Data) → array_of d ≡ Some cs
    → word_ends cs ≡ true → are_vertices v ≡ true
    → parts_of (object (put (codes "commands") d (put (codes "name") (string name) (put_vertices v))))
    ≡ Some (record { name = name; commands = cs; vertices = v })
parts_with name d cs None array ends vertices = rw (array, ends) refl
parts_with name d cs (Some v) array ends vertices = rw (vertices, array, ends) refl

module _ (pool : List Point) (s : Scripted) where
  abbrev script_parts : ScriptParts
  script_parts = record {
    name = s.0;
    commands = map (command_data pool) s.1;
    vertices = listed vertex_data pool;
  }

parts_read : (pool : List Point) (s : Scripted) → list_all is_i64_point pool ≡ true
    → word_ends (map (command_data pool) s.1) ≡ true
    → parts_of (numbered_script pool s) ≡ Some (script_parts pool s)
parts_read [] s points ends =
    parts_with s.0 (list_data (command_data []) s.1) _ None (ap Some (items_list-of (map (command_data []) s.1))) ends
    refl
parts_read (p ∷ pool) s points ends =
    let vertices = list_data vertex_data (p ∷ pool) in
    parts_with s.0 (list_data (command_data (p ∷ pool)) s.1) _ (Some vertices)
    (ap Some (items_list-of (map (command_data (p ∷ pool)) s.1))) ends
    (are_triples-read vertices (p ∷ pool) (vertices_read (p ∷ pool) points))

vertices_again : (pool : List Point) → list_all is_i64_point pool ≡ true
    → vertex_points (listed vertex_data pool) ≡ Some pool
vertices_again [] points = refl
vertices_again (p ∷ pool) points = vertices_read (p ∷ pool) points

module _ (s : Scripted) (h : IsWritable s) where
  abbrev pool : List Point
  pool = script_pool s

  commands_again : all_read (command_of pool) (map (command_data pool) s.1) ≡ Some s.1
  commands_again = commands_read pool h.fewer s.1 h.kept (points_in_pool (script_points s))

  script_parts_read : parts_of (script_tree s) ≡ Some (script_parts pool s)
  script_parts_read =
      parts_read pool s h.points (sym (ends_once-read pool (map (command_data pool) s.1) s.1 commands_again) ∙ h.ends)

  parts_again : script_of (script_parts pool s) ≡ Some s
  parts_again = rw (vertices_again pool h.points, commands_again) refl

  -- the tree of a script stands for the script, if the script isn't too long
  pub script_read : length s.1 ≤ max_commands → script_of_item (script_tree s) ≡ Some s
  script_read few =
      ap (option_and_then fit_script_of) script_parts_read
      ∙ fits (script_parts pool s) (omega (arith, length-map s.1 (command_data pool), few)) ∙ parts_again

-- ---- lists of scripts

each_read : (ss : List Scripted) → AllByRecursion IsWritable ss → AllByRecursion IsShort ss
    → all_read script_of_item (map script_tree ss) ≡ Some ss
each_read [] h few = refl
each_read (s ∷ ss) h few = rw (script_read s h.0 few.0, each_read ss h.1 few.1) refl

-- the tree of scripts stands for them, if they aren't too many and none is too long
pub scripts_read_again : (ss : List Scripted) → AllByRecursion IsWritable ss → AreFew ss
    → scripts_of (scripts_tree ss) ≡ Some ss
scripts_read_again ss h few =
    built_few script_tree (scripts_tree ss) ss (length ss) (ap Some (sym (items_list-of (map script_tree ss)))) refl
    few.number ∙ each_read ss h few.each
