use Rattle.city_decimals.proofs.Prelude.{rules}
use Rattle.city_decimals.proofs.PlainNumbers.{plain_is_number, plain_is_whole}
use Rattle.city_decimals.proofs.CompactForms.{whole_encoded}
use Rattle.city_decimals.proofs.compact.encoding.encode_number.Goals as goal

pub returns-then-take_plain-clause-number : goal.returns-then-take_plain-clause-number
returns-then-take_plain-clause-number c = search (rules, whole_encoded, plain_is_number, plain_is_whole)
