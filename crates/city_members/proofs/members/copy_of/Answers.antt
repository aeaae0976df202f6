use Rattle.city_members.proofs.MemberLaws.{members_view_cloned}
use Rattle.city_members.proofs.members.copy_of.Goals as goal

pub returns : goal.returns
returns c = members_view_cloned _ _ c.in_ok-copy.ensures.cases
