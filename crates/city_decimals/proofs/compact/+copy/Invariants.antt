use Rattle.city_decimals.proofs.Prelude.{◌≡◌, ◌+◌, ◌*◌, false, length, State, AreItemsCopied, AreMembersCopied}
use Rattle.city_decimals.proofs.Prelude.{items_changed, members_changed}
use Rattle.city_decimals.proofs.compact.+copy.Given as goal

abbrev pub decreases-copy_array : goal.decreases-copy_array
decreases-copy_array l = 8 * l.depth + 1

abbrev pub decreases-copy_object : goal.decreases-copy_object
decreases-copy_object l = 8 * l.depth + 1

abbrev pub decreases-copy_value : goal.decreases-copy_value
decreases-copy_value l = 8 * l.depth + 2

abbrev pub decreases-copy_out_of_frame : goal.decreases-copy_out_of_frame
decreases-copy_out_of_frame l = 8 * l.depth + 2

abbrev pub decreases-copy_frame : goal.decreases-copy_frame
decreases-copy_frame l = 8 * l.depth + 3

abbrev pub decreases-copy_item : goal.decreases-copy_item
decreases-copy_item l = 8 * l.depth + 4

abbrev pub decreases-copy_member : goal.decreases-copy_member
decreases-copy_member l = 8 * l.depth + 4

abbrev pub decreases-copy_items : goal.decreases-copy_items
decreases-copy_items l = 8 * l.depth + 5

abbrev pub decreases-copy_members : goal.decreases-copy_members
decreases-copy_members l = 8 * l.depth + 5

abbrev pub invariant-copy_items-items : goal.invariant-copy_items-items
invariant-copy_items-items l =
    (l.copier.0 ≡ l.fn.copier.0) × ((end : State) → AreItemsCopied (items_changed l.way) l.later l.depth l.copier end
    → AreItemsCopied (items_changed l.way) false l.depth l.fn.copier end)

abbrev pub decreases-copy_items-items : goal.decreases-copy_items-items
decreases-copy_items-items l = length l.copier.2

abbrev pub invariant-copy_members-members : goal.invariant-copy_members-members
invariant-copy_members-members l =
    (l.copier.0 ≡ l.initial.copier.0) × ((end : State) → AreMembersCopied (members_changed l.way l.top) l.later l.depth
    l.copier end
    → AreMembersCopied (members_changed l.way l.top) false l.depth l.initial.copier end)

abbrev pub decreases-copy_members-members : goal.decreases-copy_members-members
decreases-copy_members-members l = length l.copier.2
