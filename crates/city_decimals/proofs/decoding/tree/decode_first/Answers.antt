use Rattle.city_decimals.proofs.Prelude.{rules, append_assoc, on_ok_weaker}
use Rattle.city_decimals.proofs.Insides.{inner_decoded, inner_numbers}
use Rattle.city_decimals.proofs.decoding.tree.decode_first.Goals as goal

pub decode_tree-requires : goal.decode_tree-requires
decode_tree-requires c = search (rules, inner_numbers)

pub returns-clause-tokens : goal.returns-clause-tokens
returns-clause-tokens c = search (rules, inner_decoded, on_ok_weaker, append_assoc)
