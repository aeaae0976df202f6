-- The text of data is read as the data, if the names in each object ascend and each number's text is read as the number.
use Rattle.city_writer.proofs.Prelude.{◌≡◌, ℕ, ◌≤◌, max, List, Some, Less, nat_cmp, refl, sym, ap, ap₂, ◌∙◌, subst, []}
use Rattle.city_writer.proofs.Prelude.{suc, arith, append-nil, option_and_then, option_map, slice_cmp}
use Rattle.city_writer.proofs.Prelude.{nat_list_cmp_total}
use Rattle.city_writer.proofs.Prelude.{Data, array, object, Items, no_items, item, Members, no_members, member, put}
use Rattle.city_writer.proofs.Prelude.{depth}
use Rattle.city_writer.proofs.Prelude.{items_depth, members_depth, read, max_depth, of_json, of_items, of_members}
use Rattle.city_writer.proofs.Prelude.{AllAbove, AreOrdered, tokens_of, ReadsBack, ItemsReadBack, MembersReadBack}
use Rattle.json.specs.Lex.{tokens}
use Rattle.json.proofs.Printed.Trees.{value-json_tokens}
use Rattle.serde_json.specs.Written.{outline, items_outline, members_outline}
use Rattle.json.specs.Json as json
use Rattle.json.specs.Tree as tree

items_back : (ds : Items) → ItemsReadBack ds → of_items (items_outline ds) ≡ Some ds
items_back no_items h = refl
items_back (item d ds) h = rw (h.0.same, items_back ds h.1) refl

pub array_reads : (ds : Items) → ItemsReadBack ds → ReadsBack (array ds)
array_reads ds h = record { same = ap (option_map array) (items_back ds h) }

-- members, and others after them
abbrev pub and_then : Members → Members → Members
and_then no_members ms = ms
and_then (member k d done) ms = member k d (and_then done ms)

pub and_then-none : (done : Members) → and_then done no_members ≡ done
and_then-none no_members = refl
and_then-none (member k d done) = ap (member k d) (and_then-none done)

and_then-assoc : (done more ms : Members) → and_then (and_then done more) ms ≡ and_then done (and_then more ms)
and_then-assoc no_members more ms = refl
and_then-assoc (member k d done) more ms = ap (member k d) (and_then-assoc done more ms)

above_later : (l : List ℕ) (done : Members) (k : List ℕ) (d : Data) (ms : Members)
    → AllAbove l (and_then done (member k d ms)) → slice_cmp nat_cmp l k ≡ Less
above_later l no_members k d ms h = h.0
above_later l (member j e done) k d ms h = above_later l done k d ms h.1

-- a name above all before it goes last
put_last : (done : Members) (k : List ℕ) (d : Data) (ms : Members) → AreOrdered (and_then done (member k d ms))
    → put k d done ≡ and_then done (member k d no_members)
put_last no_members k d ms h = refl
put_last (member l e done) k d ms h =
    let less = above_later l done k d ms h.0 in
    let turned = nat_list_cmp_total.antisymm k l in
    grind (arith, put_last done k d ms h.1)

members_back : (done ms : Members) → AreOrdered (and_then done ms) → MembersReadBack ms
    → of_members (members_outline ms) done ≡ Some (and_then done ms)
members_back done no_members o h = ap Some (sym (and_then-none done))
members_back done (member k d ms) o h =
    let joined = and_then-assoc done (member k d no_members) ms in
    rw (h.0.same, put_last done k d ms o)
    (members_back (and_then done (member k d no_members)) ms (subst AreOrdered (sym joined) o) h.1 ∙ ap Some joined)

pub object_reads : (ms : Members) → AreOrdered ms → MembersReadBack ms → ReadsBack (object ms)
object_reads ms o h = record { same = ap (option_map object) (members_back no_members ms o h) }

mutual
  outline_depth : (d : Data) → tree.depth (outline d) ≡ depth d
  outline_depth (array ds) = ap suc (items_outline_depth ds)
  outline_depth (object ms) = ap suc (members_outline_depth ms)
  outline_depth d = refl

  items_outline_depth : (ds : Items) → tree.items_depth (items_outline ds) ≡ items_depth ds
  items_outline_depth no_items = refl
  items_outline_depth (item d ds) = ap₂ max (outline_depth d) (items_outline_depth ds)

  members_outline_depth : (ms : Members) → tree.members_depth (members_outline ms) ≡ members_depth ms
  members_outline_depth no_members = refl
  members_outline_depth (member k d ms) = ap₂ max (outline_depth d) (members_outline_depth ms)

-- a text with the tokens of data is read as the data
pub text_reads : (text : List ℕ) (d : Data) → tokens text ≡ tokens_of d → ReadsBack d → depth d ≤ max_depth
    → read text ≡ Some d
text_reads text d same h shallow =
    ap (λ o. option_and_then of_json (option_and_then (λ p. json.if_last p.0 p.1) o))
    (ap (json.value max_depth) (same ∙ sym (append-nil (tokens_of d)))
    ∙ value-json_tokens (outline d) max_depth [] (omega (arith, outline_depth d, shallow)))
    ∙ h.same
