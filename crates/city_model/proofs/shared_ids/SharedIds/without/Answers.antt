use Rattle.city_model.proofs.Prelude.{rules}
use Rattle.city_model.proofs.IdLists.{without_absent}
use Rattle.city_model.proofs.shared_ids.SharedIds.without.Goals as goal

pub returns-then-not-is_in : goal.returns-then-not-is_in
returns-then-not-is_in c = search (rules, without_absent)
