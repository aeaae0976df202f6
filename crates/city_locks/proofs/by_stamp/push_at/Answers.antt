use Rattle.city_locks.proofs.Prelude.{rules, set_value_same}
use Rattle.std.proofs.lemmas.Result.{on_err_weaker}
use Rattle.city_locks.proofs.by_stamp.push_at.Goals as goal

-- the list as it was, written back
pub returns-clause-err : goal.returns-clause-err
returns-clause-err g c =
    on_err_weaker c.try_push.result (λ same. search (rules, set_value_same)) c.try_push.ensures.err
