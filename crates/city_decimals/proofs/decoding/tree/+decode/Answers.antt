use Rattle.city_decimals.proofs.Prelude.{common_steps, arith, rules}
use Rattle.std.proofs.lemmas.List.{drop_more}
use Rattle.json.proofs.Trees.{item_smaller, member_smaller}
use Rattle.city_decimals.proofs.Insides.{member_decoded, inner_smaller, inner_numbers}
use Rattle.city_decimals.proofs.decoding.tree.+decode.Goals as goal

pub decode_tree_items-decode_tree-requires : goal.decode_tree_items-decode_tree-requires
decode_tree_items-decode_tree-requires t c = search (rules, drop_more, item_smaller)

pub decode_tree_object-decode_tree-requires : goal.decode_tree_object-decode_tree-requires
decode_tree_object-decode_tree-requires t c =
    grind (arith, common_steps, drop_more, inner_numbers, member_smaller, inner_smaller)

pub decode_tree_object-loop-member-preserved : goal.decode_tree_object-loop-member-preserved
decode_tree_object-loop-member-preserved t c = grind (arith, common_steps, drop_more, member_decoded)
