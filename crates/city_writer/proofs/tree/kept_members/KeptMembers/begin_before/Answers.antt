use Rattle.city_writer.proofs.Prelude.{◌≡◌, ◌∙◌, ap, arith, members_view, nat_cmp, slice_cmp, sym}
use Rattle.std.proofs.Common.{◌||◌}
use Rattle.std.specs.Ordering.{is_lt}
use Rattle.city_writer.specs.internal.tree.MembersLeft.{value_of, with_first}
use Rattle.city_writer.specs.internal.tree.Parted.{begins_before}
use Rattle.city_writer.proofs.tree.Beside.{begins_beside, begins_first}
use Rattle.city_writer.proofs.tree.kept_members.KeptMembers.begin_before.Goals as goal

pub returns-then-is_lt : goal.returns-then-is_lt
returns-then-is_lt c =
    let name = c.args.name.now in
    let others = with_first c.self.inside.first (members_view c.self.inside.others) in
    let is : begins_before name c.args.self.now
    ≡ (is_lt (slice_cmp nat_cmp c.in-Some.own.now name) || begins_before name others) =
    ap (begins_before name) (sym (rw c.in-Some.is at c.self.view_is))
    ∙ begins_beside name c.in-Some.own.now (value_of c.in-Some.field-0-1) others in
    grind (arith, is, c.cmp.ensures, c.is_lt.ensures, c.if-is_lt.true)

pub returns-else-is_lt : goal.returns-else-is_lt
returns-else-is_lt c =
    let name = c.args.name.now in
    let others = with_first c.self.inside.first (members_view c.self.inside.others) in
    let is : begins_before name c.args.self.now
    ≡ (is_lt (slice_cmp nat_cmp c.in-Some.own.now name) || begins_before name others) =
    ap (begins_before name) (sym (rw c.in-Some.is at c.self.view_is))
    ∙ begins_beside name c.in-Some.own.now (value_of c.in-Some.field-0-1) others in
    let first = begins_first name c.self.inside.first (members_view c.self.inside.others) c.self.invariant.0 in
    grind (arith, is, first, c.cmp.ensures, c.is_lt.ensures, c.if-is_lt.false, c.begins_before-else-is_lt.ensures)
