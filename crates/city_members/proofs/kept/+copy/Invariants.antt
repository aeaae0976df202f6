use Rattle.city_members.proofs.Prelude.{◌≡◌, drop, map, take}
use Rattle.city_members.specs.internal.KeptValues.{value_data, members_data}
use Rattle.city_members.specs.internal.MemberLists.{joined}
use Rattle.city_members.proofs.kept.+copy.Given as goal

abbrev pub invariant-few_members::FewMembers::copied-loop-name :
    goal.invariant-few_members::FewMembers::copied-loop-name
invariant-few_members::FewMembers::copied-loop-name l =
    joined (members_data l.members.items) (members_data (drop l.name-index l.name-items)) ≡ members_data l.name-items

abbrev pub invariant-kept_items::KeptItems::copied-loop-item :
    goal.invariant-kept_items::KeptItems::copied-loop-item
invariant-kept_items::KeptItems::copied-loop-item l =
    map value_data l.items.items ≡ map value_data (take l.item-index l.item-items)
