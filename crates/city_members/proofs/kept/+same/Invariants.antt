use Rattle.city_members.proofs.Prelude.{◌≡◌, drop, items_view, members_view}
use Rattle.std.specs.Slice.Iter.{iter_rest}
use Rattle.city_members.specs.Attributes.{same_items, same_members}
use Rattle.city_members.specs.internal.KeptValues.{items_data, members_data}
use Rattle.city_members.proofs.kept.+same.Given as goal

-- the answer for all is the answer for the rest
abbrev pub invariant-few_members::FewMembers::are_same-loop-other :
    goal.invariant-few_members::FewMembers::are_same-loop-other
invariant-few_members::FewMembers::are_same-loop-other l =
    same_members (members_view l.map.entries) (members_data l.other-items)
    ≡ same_members (members_view l.left) (members_data (drop l.other-index l.other-items))

abbrev pub invariant-kept_items::KeptItems::are_same-loop-value :
    goal.invariant-kept_items::KeptItems::are_same-loop-value
invariant-kept_items::KeptItems::are_same-loop-value l =
    same_items (items_view l.values.items) l.self
    ≡ same_items (items_view (drop l.value-index l.values.items)) (items_data (iter_rest l.left))
