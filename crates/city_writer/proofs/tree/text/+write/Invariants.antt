use Rattle.city_writer.proofs.Prelude.{◌≡◌, ◌++◌, drop, items_view, members_view, items_integral, members_integral}
use Rattle.city_writer.proofs.Prelude.{closing_items, closing_members, ItemsReadBack, MembersReadBack}
use Rattle.city_writer.proofs.tree.text.+write.Given as goal

-- the rest ends the array
abbrev pub invariant-write_items-loop-item : goal.invariant-write_items-loop-item
invariant-write_items-loop-item l =
    let all = items_view l.item-items in
    let left = items_view (drop l.item-index l.item-items) in
    (l.out.before ≡ l.initial.out.before)
    × (l.out.tokens ++ closing_items left ≡ l.initial.out.tokens ++ closing_items all)
    × (items_integral all ≡ items_integral left) × (ItemsReadBack left → ItemsReadBack all)

abbrev pub invariant-write_members-loop-key : goal.invariant-write_members-loop-key
invariant-write_members-loop-key l =
    let all = members_view l.members.entries in
    let left = members_view l.key-iterator in
    (l.out.before ≡ l.initial.out.before)
    × (l.out.tokens ++ closing_members left ≡ l.initial.out.tokens ++ closing_members all)
    × (members_integral all ≡ members_integral left) × (MembersReadBack left → MembersReadBack all)
