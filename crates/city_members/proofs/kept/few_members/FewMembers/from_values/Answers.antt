use Rattle.city_members.proofs.Prelude.{◌≡◌, ◌∙◌, no_members, rules, subst, sym}
use Rattle.city_members.specs.Members.{AreOrdered}
use Rattle.city_members.specs.internal.KeptValues.{members_data}
use Rattle.city_members.specs.internal.MemberLists.{joined}
use Rattle.city_members.proofs.KeptLists.{ordered_data, pair_last}
use Rattle.city_members.proofs.MemberLists.{joined-none}
use Rattle.city_members.proofs.kept.few_members.FewMembers.from_values.Goals as goal

pub loop-name-preserved : goal.loop-name-preserved
loop-name-preserved c = search (rules, pair_last)

pub invariant_of-result : goal.invariant_of-result
invariant_of-result c =
    let last : joined (members_data c.loop-name.members.items) no_members ≡ members_data c.args.map.entries =
    search rules in
    subst AreOrdered (sym last ∙ joined-none _) (ordered_data c.args.map.entries c.len.ensures.ordered)

pub returns : goal.returns
returns c =
    let last : joined (members_data c.loop-name.members.items) no_members ≡ members_data c.args.map.entries =
    search rules in
    sym (joined-none _) ∙ last
