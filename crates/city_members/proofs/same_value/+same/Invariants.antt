use Rattle.city_members.proofs.Prelude.{◌≡◌, drop, items_view, members_view}
use Rattle.std.specs.Slice.Iter.{iter_rest}
use Rattle.city_members.specs.Attributes.{same_items, same_members}
use Rattle.city_members.proofs.same_value.+same.Given as goal

-- the answer for all is the answer for the rest
abbrev pub invariant-same_items-loop-item : goal.invariant-same_items-loop-item
invariant-same_items-loop-item l =
    same_items (items_view l.items.items) (items_view l.others.items)
    ≡ same_items (items_view (drop l.item-index l.items.items)) (items_view (iter_rest l.left))

abbrev pub invariant-same_members-loop-name : goal.invariant-same_members-loop-name
invariant-same_members-loop-name l =
    same_members (members_view l.members.entries) (members_view l.others.entries)
    ≡ same_members (members_view l.name-iterator) (members_view l.left)
