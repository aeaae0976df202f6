use Rattle.city_locks.proofs.Prelude.{rules, set_value_same}
use Rattle.city_locks.proofs.holders_by_id.grant_beside.Goals as goal

-- the holders as they were, written back
pub returns-clause-err : goal.returns-clause-err
returns-clause-err c = search (rules, set_value_same)
