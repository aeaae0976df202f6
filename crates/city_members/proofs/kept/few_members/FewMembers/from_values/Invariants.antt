use Rattle.city_members.proofs.Prelude.{◌≡◌}
use Rattle.city_members.specs.internal.KeptValues.{members_data}
use Rattle.city_members.specs.internal.MemberLists.{joined}
use Rattle.city_members.proofs.kept.few_members.FewMembers.from_values.Given as goal

abbrev pub invariant-loop-name : goal.invariant-loop-name
invariant-loop-name l =
    joined (members_data l.members.items) (members_data l.name-iterator) ≡ members_data l.fn.map.entries
