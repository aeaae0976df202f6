use Rattle.city_decimals.proofs.Prelude.{rules}
use Rattle.city_decimals.proofs.Copies.{rest_more, piece_more}
use Rattle.city_decimals.proofs.copier.Copier.advance.Goals as goal

pub returns-clause-moves : goal.returns-clause-moves
returns-clause-moves c = search (rules, rest_more, piece_more)
