use Rattle.city_decimals.proofs.Prelude.{rules, append_assoc}
use Rattle.city_decimals.proofs.Forms.{around}
use Rattle.city_decimals.proofs.encoding.member.encode_member_tree.Goals as goal

pub returns-clause-ok : goal.returns-clause-ok
returns-clause-ok c = search (rules, append_assoc, around)
