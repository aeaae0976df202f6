use Rattle.city_members.proofs.Prelude.{◌≡◌, ◌+◌, ◌++◌, map, members_view}
use Rattle.std.specs.Prelude.{◌*◌}
use Rattle.std.specs.Vec.Iter.{into_iter_items}
use Rattle.serde_json.specs.View.{view, items_of}
use Rattle.city_members.specs.Members.{AreOrdered}
use Rattle.city_members.specs.internal.KeptValues.{value_data, members_data, data_size, items_size, members_size}
use Rattle.city_members.specs.internal.MemberLists.{joined}
use Rattle.city_members.proofs.kept.+into.Given as goal

abbrev pub decreases-kept_value::KeptValue::into_value : goal.decreases-kept_value::KeptValue::into_value
decreases-kept_value::KeptValue::into_value l = 2 * data_size (value_data l.self)

abbrev pub decreases-kept_items::KeptItems::into_values : goal.decreases-kept_items::KeptItems::into_values
decreases-kept_items::KeptItems::into_values l = 2 * items_size l.self + 1

abbrev pub decreases-few_members::FewMembers::into_map : goal.decreases-few_members::FewMembers::into_map
decreases-few_members::FewMembers::into_map l = 2 * members_size l.self + 1

abbrev pub invariant-few_members::FewMembers::into_map-loop-name :
    goal.invariant-few_members::FewMembers::into_map-loop-name
invariant-few_members::FewMembers::into_map-loop-name l =
    AreOrdered l.fn.self
    × (joined (members_view l.map.entries) (members_data (into_iter_items l.name-iterator)) ≡ l.fn.self)

abbrev pub invariant-kept_items::KeptItems::into_values-loop-item :
    goal.invariant-kept_items::KeptItems::into_values-loop-item
invariant-kept_items::KeptItems::into_values-loop-item l =
    items_of (map view l.values.items ++ map value_data (into_iter_items l.item-iterator)) ≡ l.fn.self
