use Rattle.city_decimals.proofs.Prelude.{rules, get_or-take, length-take}
use Rattle.city_decimals.proofs.Copies.{plain_text}
use Rattle.city_decimals.proofs.copier.Copier.next_number.Goals as goal

pub returns-clause-plain : goal.returns-clause-plain
returns-clause-plain c = search (rules, plain_text, length-take, get_or-take)
