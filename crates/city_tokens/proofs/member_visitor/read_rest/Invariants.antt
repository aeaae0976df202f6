use Rattle.city_tokens.proofs.Prelude.{length, Members, no_members, members_view}
use Rattle.city_tokens.proofs.Reading.{AreFound}
use Rattle.city_tokens.proofs.member_visitor.read_rest.Given as goal

abbrev pub invariant-members : goal.invariant-members
invariant-members g l =
    (found : Members) × AreFound l.depth l.initial.reader l.reader found
    × (g.O.MemberVisitor.stands l.fn.start no_members no_members
    → g.O.MemberVisitor.stands l.own found (members_view l.kept.entries))

abbrev pub decreases-members : goal.decreases-members
decreases-members g l = length l.reader
