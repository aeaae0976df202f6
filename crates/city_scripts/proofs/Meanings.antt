-- Meanings of scripts.
use Rattle.city_scripts.proofs.Prelude.{◌≡◌, ℕ, List, length, Bool, true, Option, Some, None, ap, ◌∙◌, false, refl}
use Rattle.city_scripts.proofs.Prelude.{arith, ◌&&◌, option_and_then, codes, slice_get, list_all, and_parts, Data}
use Rattle.city_scripts.proofs.Prelude.{Items, no_items, item, Members, get_member, as_object, Point, Command, Scripted}
use Rattle.city_scripts.proofs.Prelude.{is_integral, read_items, all_read, is_bad_command, names_bad_vertex, command_of}
use Rattle.city_scripts.proofs.Prelude.{ScriptParts, commands_in, parts_in, parts_of, vertex_count, array_of-integral}
use Rattle.city_scripts.proofs.Prelude.{as_object-integral, get_member-integral, and_then_some, if_some}
use Rattle.std.proofs.lemmas.Bool.{false_from_ne_true}
use Rattle.city_tokens.specs.tree.Lists.{items_list, array_of}
use Rattle.city_scripts.specs.internal.Faultless.{AreFaultlessParts}
use Rattle.city_tokens.specs.script.Scripts.{are_vertices, ended, parts_if, has_script_members, vertex_points}
use Rattle.city_tokens.specs.script.Scripts.{script_of, scripts_of_parts}
use Rattle.city_tokens.proofs.Laws.{in_all, all_read-all, all_read-some}
use Rattle.city_scripts.proofs.CommandMeanings.{command_of-some}
use Rattle.city_doc.proofs.Laws.{array_some}

vertices-points : (v : Option Data) → are_vertices v ≡ true → (ps : List Point) × (vertex_points v ≡ Some ps)
vertices-points v h = grind (arith, array_some)

items-as_many : {A : Type 0} (read : Data → Option A) (ds : Items) (xs : List A) → read_items read ds ≡ Some xs
    → length xs ≡ length (items_list ds)
items-as_many read no_items xs h = grind arith
items-as_many read (item d ds) xs h = grind (arith, items-as_many read ds)

pub vertex_points-as_many : (v : Option Data) (points : List Point) → vertex_points v ≡ Some points
    → length points ≡ vertex_count v
vertex_points-as_many v points h = grind (arith, items-as_many)

-- its vertices are such, and the numbers in its commands are whole
abbrev pub are_good_parts : ScriptParts → Bool
are_good_parts p = are_vertices p.vertices && list_all is_integral p.commands

commands_integral : (ms : Members) (cs : List Data)
    → ((d : Data) → get_member (codes "commands") ms ≡ Some d → is_integral d ≡ true) → commands_in ms ≡ Some cs
    → list_all is_integral cs ≡ true
commands_integral ms cs integral h =
    let r = and_then_some ended (option_and_then array_of (get_member (codes "commands") ms)) cs h in
    let q = and_then_some array_of (get_member (codes "commands") ms) r.0 r.1 in
    let all = array_of-integral q.0 r.0 (integral q.0 q.1) q.2 in
    grind arith

parts_in-good : (ms : Members) (p : ScriptParts) → has_script_members ms ≡ true
    → ((d : Data) → get_member (codes "commands") ms ≡ Some d → is_integral d ≡ true)
    → parts_in ms ≡ Some p → are_good_parts p ≡ true
parts_in-good ms p shape integral h = let all = commands_integral ms p.commands integral in grind arith

pub parts_of-good : (d : Data) (p : ScriptParts) → is_integral d ≡ true → parts_of d ≡ Some p → are_good_parts p ≡ true
parts_of-good d p integral h =
    let r = and_then_some parts_if (as_object d) p h in
    let q = if_some (has_script_members r.0) (parts_in r.0) p r.2 in
    parts_in-good r.0 p q.0
    (λ e at. get_member-integral (codes "commands") r.0 e (as_object-integral d r.0 integral r.1) at) q.1

module _ (ps : List ScriptParts) (h : AreFaultlessParts ps) (n : ℕ) (p : ScriptParts) (at : slice_get ps n ≡ Some p)
  where
    command_there : (points : List Point) → list_all is_integral p.commands ≡ true
        → vertex_points p.vertices ≡ Some points → (i : ℕ) (d : Data) → slice_get p.commands i ≡ Some d
        → (c : Command) × (command_of points d ≡ Some c)
    command_there points integral read i d there =
        let placed : names_bad_vertex (length points) d ≡ false =
        ap (λ n. names_bad_vertex n d) (vertex_points-as_many p.vertices points read)
        ∙ false_from_ne_true (names_bad_vertex (vertex_count p.vertices) d) (λ bad. h.2 n i (p, d, at, there, bad)) in
        command_of-some points d (in_all is_integral p.commands i d integral there)
        (false_from_ne_true (is_bad_command d) (λ bad. h.1 n i (p, d, at, there, bad))) placed

    script_some : are_good_parts p ≡ true → (s : Scripted) × (script_of p ≡ Some s)
    script_some ok =
        let hs = and_parts (are_vertices p.vertices) (list_all is_integral p.commands) ok in
        let points = vertices-points p.vertices hs.0 in
        let cs = all_read-some (command_of points.0) p.commands (command_there points.0 hs.1 points.1) in
        ((p.name, cs.0), rw (points.1, cs.1) refl)

-- scripts of whole numbers without a fault
pub scripts-there : (ds : List Data) (ps : List ScriptParts) → list_all is_integral ds ≡ true
    → all_read parts_of ds ≡ Some ps → AreFaultlessParts ps
    → option_and_then scripts_of_parts (all_read parts_of ds) ≡ None → ⊥
scripts-there ds ps integral read h none =
    let ok = all_read-all parts_of is_integral are_good_parts parts_of-good ds ps integral read in
    let ss = all_read-some script_of ps (λ n p at. script_some ps h n p at (in_all are_good_parts ps n p ok at)) in
    let there : option_and_then scripts_of_parts (all_read parts_of ds) ≡ Some ss.0 = rw (read, h.0) ss.1 in
    cc
