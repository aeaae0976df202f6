use Rattle.city_decimals.proofs.Prelude.{false, ◌≡◌, ◌++◌, drop, items_tokens, members_tokens, ItemsHaveNumbers}
use Rattle.city_decimals.proofs.Prelude.{MembersHaveNumbers, items_view, members_view, encoded_items, encoded_members}
use Rattle.city_decimals.proofs.encoding.tree.+encode.Given as goal

-- the output, with the tokens of the remaining items, is the whole array's
abbrev pub invariant-encode_tree_items-loop-item : goal.invariant-encode_tree_items-loop-item
invariant-encode_tree_items-loop-item l =
    let all = items_view l.item-items in
    let left = items_view (drop l.item-index l.item-items) in
    (l.out.before ≡ l.initial.out.before)
    × (l.out.tokens ++ items_tokens (encoded_items left)
    ≡ l.initial.out.tokens ++ items_tokens (encoded_items all)) × ItemsHaveNumbers left

abbrev pub invariant-encode_tree_members-loop-member : goal.invariant-encode_tree_members-loop-member
invariant-encode_tree_members-loop-member l =
    let all = members_view l.member-items in
    let left = members_view (drop l.member-index l.member-items) in
    (l.out.before ≡ l.initial.out.before)
    × (l.out.tokens ++ members_tokens (encoded_members false left)
    ≡ l.initial.out.tokens ++ members_tokens (encoded_members false all)) × MembersHaveNumbers left
