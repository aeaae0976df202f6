use Rattle.city_writer.proofs.Prelude.{◌≡◌, ◌++◌, members_integral, closing_members, MembersReadBack}
use Rattle.city_members.specs.internal.KeptValues.{members_data}
use Rattle.city_trees.specs.Items.{items_left}
use Rattle.city_writer.proofs.tree.member_value.write_shared.Given as goal

-- the rest ends the object
abbrev pub invariant-loop-member : goal.invariant-loop-member
invariant-loop-member l =
    let left = members_data (items_left l.member-iterator) in
    (l.out.before ≡ l.initial.out.before)
    × (l.out.tokens ++ closing_members left ≡ l.initial.out.tokens ++ closing_members l.members)
    × (members_integral l.members ≡ members_integral left) × (MembersReadBack left → MembersReadBack l.members)
