use Rattle.city_decimals.proofs.Prelude.{rules}
use Rattle.city_decimals.proofs.Insides.{inner_decoded, inner_numbers}
use Rattle.city_decimals.proofs.decoding.member.decode_member_tree.Goals as goal

pub decode_tree-requires : goal.decode_tree-requires
decode_tree-requires c = search (rules, inner_numbers)

pub returns-clause-ok : goal.returns-clause-ok
returns-clause-ok c = search (rules, inner_decoded)
