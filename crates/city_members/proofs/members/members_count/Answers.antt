use Rattle.city_members.proofs.Prelude.{◌∙◌, sym}
use Rattle.city_members.proofs.MemberLaws.{ordered_members, members_count-view}
use Rattle.city_members.proofs.members.members_count.Goals as goal

pub returns-clause-counted : goal.returns-clause-counted
returns-clause-counted c = c.len.ensures.len ∙ sym (members_count-view c.args.members.now.entries)

pub returns-clause-ordered : goal.returns-clause-ordered
returns-clause-ordered c = ordered_members c.args.members.now.entries c.len.ensures.ordered
