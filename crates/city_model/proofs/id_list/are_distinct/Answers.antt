use Rattle.city_model.proofs.Prelude.{rules}
use Rattle.city_model.proofs.IdLists.{increasing_distinct}
use Rattle.city_model.proofs.id_list.are_distinct.Goals as goal

pub returns-then-are_increasing : goal.returns-then-are_increasing
returns-then-are_increasing c = search (rules, increasing_distinct)
