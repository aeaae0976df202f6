use Rattle.std.specs.Prelude.{◌*◌}
use Rattle.city_writer.proofs.Prelude.{◌≡◌, ◌+◌, ◌++◌, drop, items_integral, members_integral}
use Rattle.city_writer.proofs.Prelude.{closing_items, closing_members, ItemsReadBack, MembersReadBack}
use Rattle.city_members.specs.internal.KeptValues.{value_data, items_data, members_data, data_size, items_size}
use Rattle.city_members.specs.internal.KeptValues.{members_size}
use Rattle.city_writer.proofs.tree.kept_value.+write.Given as goal

abbrev pub decreases-write_kept : goal.decreases-write_kept
decreases-write_kept l = 2 * data_size (value_data l.value.now)

abbrev pub decreases-write_items : goal.decreases-write_items
decreases-write_items l = 2 * items_size (items_data l.items.now) + 1

abbrev pub decreases-write_members : goal.decreases-write_members
decreases-write_members l = 2 * members_size (members_data l.members.now) + 1

-- the rest ends the array
abbrev pub invariant-write_items-loop-item : goal.invariant-write_items-loop-item
invariant-write_items-loop-item l =
    let all = items_data l.items in
    let left = items_data (drop l.item-index l.items) in
    (l.out.before ≡ l.initial.out.before)
    × (l.out.tokens ++ closing_items left ≡ l.initial.out.tokens ++ closing_items all)
    × (items_integral all ≡ items_integral left) × (ItemsReadBack left → ItemsReadBack all)

abbrev pub invariant-write_members-loop-key : goal.invariant-write_members-loop-key
invariant-write_members-loop-key l =
    let all = members_data l.members in
    let left = members_data (drop l.key-index l.members) in
    (l.out.before ≡ l.initial.out.before)
    × (l.out.tokens ++ closing_members left ≡ l.initial.out.tokens ++ closing_members all)
    × (members_integral all ≡ members_integral left) × (MembersReadBack left → MembersReadBack all)
