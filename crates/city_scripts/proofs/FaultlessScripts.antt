-- A text of scripts has no fault.
use Rattle.city_scripts.proofs.Prelude.{◌≡◌, true≢false, ℕ, List, length, Bool, true, false, Option, Some, None, refl}
use Rattle.city_scripts.proofs.Prelude.{sym, ap, ◌∙◌, arith, option_and_then, slice_get, Data, get, codes, Point}
use Rattle.city_scripts.proofs.Prelude.{Geometry, Command, Scripted, Body, body_of, has_bad_vertex, is_bad_geometry}
use Rattle.city_scripts.proofs.Prelude.{is_position, all_read, is_bad_command, names_bad_vertex, not, command_of}
use Rattle.city_scripts.proofs.Prelude.{ScriptParts, parts_of, vertex_count, and_parts, and_then_some, map_some}
use Rattle.std.specs.Prelude.{◌||◌, if◌then◌else◌}
use Rattle.city_scripts.specs.declared.fault.ScriptFault.{ScriptFault}
use Rattle.city_scripts.specs.declared.fault.ScriptFault.TheVariants.{BadScript, TooMany, BadCommand, BadVertex}
use Rattle.city_scripts.specs.AllFaults.{StandsAt}
use Rattle.city_scripts.specs.CommandFaults.{is_bad_object, is_no_good_form, form_names_bad_vertex}
use Rattle.city_doc.specs.shape.Forms.{is_number}
use Rattle.city_model.specs.declared.command.Command.TheVariants.{Put, Add, Reshape}
use Rattle.city_tokens.specs.script.CommandForms.{CommandForm, PutForm, AddForm, ReshapeForm, form_of}
use Rattle.city_tokens.specs.script.Commands.{unrelated_body, geometries_of, command_of_form, names_relations}
use Rattle.city_tokens.specs.script.Scripts.{script_of, scripts_of, scripts_of_parts, vertex_points}
use Rattle.city_tokens.specs.script.Scripts as scripts
use Rattle.city_tokens.specs.tree.Lists.{array_of}
use Rattle.city_doc.proofs.Laws.{known, supported, formed, placed, is_object, geometries_fit}
use Rattle.city_doc.proofs.Laws.{number_fits, position_fits}
use Rattle.city_scripts.proofs.ItemParts.{all_read-at, none_bad, too_many_alike}
use Rattle.city_scripts.proofs.Meanings.{vertex_points-as_many}

-- ---- commands

-- a command with a meaning, of a form or a tree
pub record IsFine (bad misplaced : Bool) : Type 0 where
  pub good : bad ≡ false
  pub placed : misplaced ≡ false

object_fine : (points : List Point) (d : Data) (b : Body) → unrelated_body points d ≡ Some b
    → IsFine (is_bad_object d) (has_bad_vertex (length points) d)
object_fine points d b h = by (names_relations d) refl
  where
    by : (related : Bool) → names_relations d ≡ related → IsFine (is_bad_object d) (has_bad_vertex (length points) d)
    by true related = absurd (grind (arith, h, related))
    by false alone =
        let is = sym (ap (λ r. if r then None else body_of points d) alone) ∙ h in
        record {
          good = grind (arith, known points d b, supported points d b, formed points d b, is_object points d b);
          placed = placed points d b is;
        }

-- forms without geometries of their own
only_object : (bad misplaced : Bool) → IsFine bad misplaced → IsFine (bad || false) (misplaced || false)
only_object bad misplaced h = record { good = rw h.good refl; placed = rw h.placed refl }

geometry_fine : (points : List Point) (d : Data) (gs : List Geometry) → geometries_of points d ≡ Some gs
    → IsFine (is_bad_geometry d) (has_bad_vertex (length points) d)
geometry_fine points d gs h = record {
  good = ap not (geometries_fit points is_number (number_fits points) (get (codes "geometry") d) gs h);
  placed = ap not (geometries_fit points (is_position (length points)) (position_fits points) (get (codes "geometry") d)
      gs h);
}

form_fine : (points : List Point) (o : Option CommandForm) (c : Command)
    → option_and_then (command_of_form points) o ≡ Some c
    → IsFine (is_no_good_form o) (form_names_bad_vertex (length points) o)
form_fine points None c h = absurd (let none : ⊥ = cc in none)
form_fine points (Some (PutForm id tree)) c h =
    let b = map_some (Put id) (unrelated_body points tree) c h in
    only_object _ _ (object_fine points tree b.0 b.1)
form_fine points (Some (AddForm id tree)) c h =
    let b = map_some (Add id) (unrelated_body points tree) c h in
    only_object _ _ (object_fine points tree b.0 b.1)
form_fine points (Some (ReshapeForm id tree)) c h =
    let gs = map_some (Reshape id) (geometries_of points tree) c h in
    let r = geometry_fine points tree gs.0 gs.1 in
    record { good = r.good; placed = r.placed }
form_fine points (Some f) c h = record { good = refl; placed = refl }

command_fine : (points : List Point) (d : Data) (c : Command) → command_of points d ≡ Some c
    → IsFine (is_bad_command d) (names_bad_vertex (length points) d)
command_fine points d c h = form_fine points (form_of d) c h

-- ---- scripts

script_fine : (p : ScriptParts) (s : Scripted) (i : ℕ) (d : Data) → script_of p ≡ Some s
    → slice_get p.commands i ≡ Some d
    → IsFine (is_bad_command d) (names_bad_vertex (vertex_count p.vertices) d)
script_fine p s i d h at =
    let points = and_then_some _ (vertex_points p.vertices) s h in
    let commands = map_some _ (all_read (command_of points.0) p.commands) s points.2 in
    let c = all_read-at (command_of points.0) p.commands commands.0 i d commands.1 at in
    let r = command_fine points.0 d c.0 c.2 in
    let many = vertex_points-as_many p.vertices points.0 points.1 in
    record { good = r.good; placed = ap (λ n. names_bad_vertex n d) (sym many) ∙ r.placed }

few : (ps : List ScriptParts) (ss : List Scripted) → scripts_of_parts ps ≡ Some ss
    → (scripts.are_too_many ps ≡ false) × (all_read script_of ps ≡ Some ss)
few ps ss h = by (scripts.are_too_many ps) refl
  where
    by : (b : Bool) → scripts.are_too_many ps ≡ b
        → (scripts.are_too_many ps ≡ false) × (all_read script_of ps ≡ Some ss)
    by true is = absurd (let other = sym h ∙ ap (λ b. if b then None else all_read script_of ps) is in cc)
    by false is = (is, sym (ap (λ b. if b then None else all_read script_of ps) is) ∙ h)

module _ (ds : List Data) (ps : List ScriptParts) (ss : List Scripted) (read : all_read parts_of ds ≡ Some ps)
    (h : scripts_of_parts ps ≡ Some ss) where
  fine : (s : Data) (p : ScriptParts) (d : Data) (n i : ℕ) → slice_get ds n ≡ Some s → parts_of s ≡ Some p
      → slice_get p.commands i ≡ Some d
      → IsFine (is_bad_command d) (names_bad_vertex (vertex_count p.vertices) d)
  fine s p d n i at is there =
      let k = all_read-at parts_of ds ps n s read at in
      let same : k.0 ≡ p = grind (arith, k.2, is) in
      let m = all_read-at script_of ps ss n p (few ps ss h).1 (k.1 ∙ ap Some same) in
      script_fine p m.0 i d m.2 there

  none_stands : (f : ScriptFault) → StandsAt ds f → ⊥
  none_stands (BadScript n) bad = none_bad ds ps n read bad
  none_stands TooMany many = true≢false (sym many ∙ too_many_alike ds ps read ∙ (few ps ss h).0)
  none_stands (BadCommand n i) (s, p, d, at, is, there, has) =
      true≢false (sym has ∙ (fine s p d n i at is there).good)
  none_stands (BadVertex n i) (s, p, d, at, is, there, has) =
      true≢false (sym (and_parts _ _ has).1 ∙ (fine s p d n i at is there).placed)
  none_stands f h = h

-- an array of scripts has no fault
pub none_of_scripts : (d : Data) (ds : List Data) (ss : List Scripted) → scripts_of d ≡ Some ss → array_of d ≡ Some ds
    → (f : ScriptFault) → StandsAt ds f → ⊥
none_of_scripts d ds ss h is f k =
    let ps = and_then_some scripts_of_parts (option_and_then (all_read parts_of) (array_of d)) ss h in
    none_stands ds ps.0 ss (sym (ap (option_and_then (all_read parts_of)) is) ∙ ps.1) ps.2 f k

-- only an array stands for scripts
pub scripts_array : (d : Data) (ss : List Scripted) → scripts_of d ≡ Some ss → array_of d ≡ None → ⊥
scripts_array d ss h none = grind (arith, h, none)
