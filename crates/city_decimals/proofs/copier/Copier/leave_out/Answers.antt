use Rattle.city_decimals.proofs.Prelude.{rules}
use Rattle.city_decimals.proofs.Copies.{rest_more, all_written}
use Rattle.city_decimals.proofs.copier.Copier.leave_out.Goals as goal

pub returns-clause-moves : goal.returns-clause-moves
returns-clause-moves c = search (rules, rest_more, all_written)
