use Rattle.city_decimals.proofs.Prelude.{arith}
use Rattle.city_decimals.proofs.Copied.{some_weaker}
use Rattle.city_decimals.proofs.CompactForms.{tagged_encoded}
use Rattle.city_decimals.proofs.compact.encoding.encode_other_number.Goals as goal

pub returns-in_ok-insert-clause-number : goal.returns-in_ok-insert-clause-number
returns-in_ok-insert-clause-number c = grind (arith, some_weaker, tagged_encoded)
