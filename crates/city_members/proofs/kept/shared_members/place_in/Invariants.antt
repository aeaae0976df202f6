use Rattle.city_members.proofs.Prelude.{take}
use Rattle.city_members.specs.internal.KeptValues.{members_data}
use Rattle.city_members.specs.internal.MemberLists.{AllBelow}
use Rattle.city_members.proofs.kept.shared_members.place_in.Given as goal

abbrev pub invariant-loop-at : goal.invariant-loop-at
invariant-loop-at l = AllBelow (members_data (take l.at l.members)) l.name
