-- A script's members read so far, with one more; and the script of all of them.
use Rattle.city_tokens.proofs.Prelude.{◌≡◌, ◌≤◌, ℕ, List, length, true, Option, Some, Less, codes, refl, ap, ap₂, ◌∙◌}
use Rattle.city_tokens.proofs.Prelude.{arith, nat_list_cmp_total, Token, Data, array, object, Members, no_members}
use Rattle.city_tokens.proofs.Prelude.{member, put, as_str, items_of, Command, Point, ends_once, Vertex, command_of}
use Rattle.city_tokens.proofs.Prelude.{IsCommand, IsVertex, IsResolved, points_of, IsScript, IsArrayOf, IsListSlot}
use Rattle.city_tokens.proofs.Prelude.{IsString, IsReadAs, IsTaken, list_of, all_read}
use Rattle.std.proofs.lemmas.Cmp.{tied_itself}
use Rattle.city_tokens.specs.declared.script.ScriptParts.{ScriptParts}
use Rattle.city_tokens.specs.script.Scripts.{are_vertices, vertex_points, max_commands}
use Rattle.city_tokens.specs.internal.Scripts.{with_part, script_members, IsPart, IsScriptSoFar}
use Rattle.city_tokens.proofs.tree.AllRead.{are_triples-read, all_read-length}
use Rattle.city_tokens.proofs.script.CommandLaws.{ends_once-read}
use Rattle.city_tokens.proofs.document.BuiltFrames.{vertices_read}
use Rattle.city_tokens.proofs.script.BuiltScripts.{all_items}
use Rattle.city_tokens.proofs.tree.IntegralParts.{items_list-of}
use Rattle.city_members.proofs.Puts.{cmp, put-swap}

-- the last one of a name counts
put_again : (k : List ℕ) (d e : Data) (ms : Members) → put k d (put k e ms) ≡ put k d ms
put_again k d e no_members = let same = tied_itself nat_list_cmp_total k in grind arith
put_again k d e (member l f ms) = let same = tied_itself nat_list_cmp_total k in grind (arith, put_again k d e ms)

part_here : (k : List ℕ) (d : Data) (o : Option Data) (ms : Members) → put k d (with_part k o ms) ≡ put k d ms
part_here k d o ms = grind (arith, put_again)

part_below : (a b : List ℕ) (d : Data) (o : Option Data) (ms : Members) → cmp a b ≡ Less
    → put b d (with_part a o ms) ≡ with_part a o (put b d ms)
part_below a b d o ms less = grind (arith, put-swap)

module _ (old : ScriptParts) {name : List ℕ} {depth : ℕ} {before after : List Token} where
  pub with_commands : (commands : List Command) → name ≡ codes "commands"
      → IsReadAs (IsArrayOf IsCommand) commands depth before after
      → IsTaken IsScriptSoFar old (record old { commands = Some commands }) name depth before after
  with_commands commands named read =
      let same = part_here (codes "commands") read.0 in
      (read.0, read.1, λ _ _ h. (Some read.0, h.1, h.2, rw (named, h.3, same) refl, read.2, h.5, h.6))

  pub with_name : (text : List ℕ) → name ≡ codes "name" → IsReadAs IsString text depth before after
      → IsTaken IsScriptSoFar old (record old { name = Some text }) name depth before after
  with_name text named read =
      let same = part_here (codes "name") read.0 in
      let below = part_below (codes "commands") (codes "name") read.0 in
      (read.0, read.1, λ _ _ h. (h.0, Some read.0, h.2, rw (named, h.3, below, same) refl, h.4, read.2, h.6))

  pub with_vertices : (vertices : List Vertex) → name ≡ codes "vertices"
      → IsReadAs (IsArrayOf IsVertex) vertices depth before after
      → IsTaken IsScriptSoFar old (record old { vertices = vertices }) name depth before after
  with_vertices vertices named read =
      (read.0, read.1, λ _ _ h. (h.0, h.1, Some read.0, simp (named, h.3, part_below, part_here), h.4, h.5, read.2))

-- the trees of its commands stand for these at the points of its vertices
script_read : (commands : List Data) (text : Data) (vertices : Option Data) (found : Members) (name : List ℕ)
    (cs : List Command) (points : List Point)
    → found ≡ script_members (Some (array (items_of commands))) (Some text) vertices → as_str text ≡ Some name
    → all_read (command_of points) commands ≡ Some cs → ends_once cs ≡ true → length cs ≤ max_commands
    → are_vertices vertices ≡ true → vertex_points vertices ≡ Some points → IsScript (name, cs) (object found)
script_read commands text vertices found name cs points is named read ends short right resolved =
    grind (arith, items_list-of, ends_once-read, all_read-length)

-- a member is there if anything was read of it
part_there : {A : Type 0} (R : A → Data → Type 0) (slot : Option A) (x : A) (m : Option Data) → slot ≡ Some x
    → IsPart R slot m → (d : Data) × (m ≡ Some d) × R x d
part_there R slot x m is h = grind arith

points_there : (vs : List Vertex) (m : Option Data) → IsListSlot IsVertex vs m
    → vertex_points m ≡ Some (points_of vs)
points_there vs m h = grind (arith, vertices_read)

right_there : (m : Option Data) (points : List Point) → vertex_points m ≡ Some points
    → are_vertices m ≡ true
right_there m points h = grind (arith, are_triples-read)

-- its commands are the ones read, resolved at its vertices
pub script_made : (parts : ScriptParts) (name : List ℕ) (commands cs : List Command) (found kept : Members)
    → parts.name ≡ Some name → parts.commands ≡ Some commands
    → IsResolved (IsArrayOf IsCommand) (list_of (command_of (points_of parts.vertices))) commands cs
    → ends_once cs ≡ true → length cs ≤ max_commands → IsScriptSoFar parts found kept
    → IsScript (name, cs) (object found)
script_made parts name commands cs found kept named listed resolved ends short so =
    let points = points_of parts.vertices in
    let text = part_there IsString parts.name name so.1 named so.5 in
    let list = part_there (IsArrayOf IsCommand) parts.commands commands so.0 listed so.4 in
    let trees = list.2.0 in
    let read : all_read (command_of points) trees ≡ Some cs =
    rw (list.2.1, all_items (command_of points) trees) at (resolved list.0 list.2) in
    let there = points_there parts.vertices so.2 so.6 in
    let is : found ≡ script_members (Some (array (items_of trees))) (Some text.0) so.2 = so.3
    ∙ ap₂ (λ c n. script_members c n so.2) (list.1 ∙ ap Some list.2.1) text.1 in
    script_read trees text.0 so.2 found name cs points is text.2 read ends short (right_there so.2 points there) there
