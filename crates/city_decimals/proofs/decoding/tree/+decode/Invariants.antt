use Rattle.city_decimals.proofs.Prelude.{false, ◌≡◌, ◌++◌, drop, length, json_tokens, items_tokens, members_tokens}
use Rattle.city_decimals.proofs.Prelude.{ItemsHaveNumbers, MembersHaveNumbers, value_view, items_view, members_view}
use Rattle.city_decimals.proofs.Prelude.{decoded_items, decoded_members}
use Rattle.city_decimals.proofs.decoding.tree.+decode.Given as goal

abbrev pub decreases-decode_tree : goal.decreases-decode_tree
decreases-decode_tree l = length (json_tokens (value_view l.value.now))

abbrev pub decreases-decode_tree_items : goal.decreases-decode_tree_items
decreases-decode_tree_items l = length (items_tokens (items_view l.items.now.items))

abbrev pub decreases-decode_tree_object : goal.decreases-decode_tree_object
decreases-decode_tree_object l = length (members_tokens (members_view l.members.now.items))

abbrev pub invariant-decode_tree_items-loop-item : goal.invariant-decode_tree_items-loop-item
invariant-decode_tree_items-loop-item l =
    let all = items_view l.item-items in
    let left = items_view (drop l.item-index l.item-items) in
    (l.out.before ≡ l.initial.out.before)
    × (l.out.tokens ++ items_tokens (decoded_items left)
    ≡ l.initial.out.tokens ++ items_tokens (decoded_items all)) × ItemsHaveNumbers left

abbrev pub invariant-decode_tree_object-loop-member : goal.invariant-decode_tree_object-loop-member
invariant-decode_tree_object-loop-member l =
    let all = members_view l.member-items in
    let left = members_view (drop l.member-index l.member-items) in
    (l.out.before ≡ l.initial.out.before)
    × (l.out.tokens ++ members_tokens (decoded_members false left)
    ≡ l.initial.out.tokens ++ members_tokens (decoded_members false all)) × MembersHaveNumbers left
