use Rattle.city_decimals.proofs.Prelude.{rules}
use Rattle.city_decimals.proofs.PlainNumbers.{plain_is_number, plain_is_itself}
use Rattle.city_decimals.proofs.copier.Copier.pass_number.Goals as goal

pub returns-then-take_plain-clause-moves : goal.returns-then-take_plain-clause-moves
returns-then-take_plain-clause-moves c = search (rules, plain_is_number, plain_is_itself)
