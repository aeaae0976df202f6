use Rattle.city_members.proofs.Prelude.{◌≡◌, drop, members_integral}
use Rattle.city_members.specs.Integral.{items_integral}
use Rattle.city_members.specs.internal.KeptValues.{items_data, members_data}
use Rattle.city_members.proofs.kept.+integral.Given as goal

-- the answer for all is the answer for the rest
abbrev pub invariant-few_members::FewMembers::are_integral-loop-name :
    goal.invariant-few_members::FewMembers::are_integral-loop-name
invariant-few_members::FewMembers::are_integral-loop-name l =
    members_integral (members_data l.name-items) ≡ members_integral (members_data (drop l.name-index l.name-items))

abbrev pub invariant-kept_items::KeptItems::are_integral-loop-item :
    goal.invariant-kept_items::KeptItems::are_integral-loop-item
invariant-kept_items::KeptItems::are_integral-loop-item l =
    items_integral (items_data l.item-items) ≡ items_integral (items_data (drop l.item-index l.item-items))
