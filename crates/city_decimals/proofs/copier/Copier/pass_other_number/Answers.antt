use Rattle.city_decimals.proofs.Prelude.{rules, get_or-take, length-take}
use Rattle.city_decimals.proofs.Copies.{plain_text}
use Rattle.city_decimals.proofs.copier.Copier.pass_other_number.Goals as goal

pub returns-clause-moves : goal.returns-clause-moves
returns-clause-moves c = search (rules, plain_text, length-take, get_or-take)
