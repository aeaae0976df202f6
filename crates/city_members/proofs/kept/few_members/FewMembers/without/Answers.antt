use Rattle.city_members.proofs.Prelude.{subst, sym}
use Rattle.city_members.specs.Members.{AreOrdered}
use Rattle.city_members.proofs.MemberLists.{ordered_without}
use Rattle.city_members.proofs.kept.few_members.FewMembers.without.Goals as goal

pub invariant_of-result : goal.invariant_of-result
invariant_of-result c =
    subst AreOrdered (sym c.clear-place.ensures.left) (ordered_without c.args.name.now _ c.self.invariant)
