use Rattle.city_members.proofs.Prelude.{◌≡◌, ◌++◌, map, members_view}
use Rattle.std.specs.Vec.Iter.{into_iter_items}
use Rattle.serde_json.specs.View.{view}
use Rattle.city_members.specs.internal.KeptValues.{value_data, members_data}
use Rattle.city_members.specs.internal.MemberLists.{joined}
use Rattle.city_members.proofs.kept.+from.Given as goal

abbrev pub invariant-few_members::FewMembers::from_map-loop-name :
    goal.invariant-few_members::FewMembers::from_map-loop-name
invariant-few_members::FewMembers::from_map-loop-name l =
    joined (members_data l.members.items) (members_view l.name-iterator) ≡ members_view l.fn.map.entries

abbrev pub invariant-kept_items::KeptItems::from_values-loop-value :
    goal.invariant-kept_items::KeptItems::from_values-loop-value
invariant-kept_items::KeptItems::from_values-loop-value l =
    map value_data l.items.items ++ map view (into_iter_items l.value-iterator) ≡ map view l.fn.values.items
