use Rattle.city_txn.proofs.Prelude.{rules}
use Rattle.city_txn.proofs.PerformDone.{back_failed, back_refused, back_performed}
use Rattle.city_txn.proofs.store.Store.back.Goals as goal

pub returns-in_err-copy : goal.returns-in_err-copy
returns-in_err-copy c = search (rules, back_failed)

pub returns-then-not-has_mark : goal.returns-then-not-has_mark
returns-then-not-has_mark c =
    back_refused _ _ _ _ c.logs.ensures _ c.has_mark.ensures c.if-not-has_mark.true _ c.in_ok-copy.ensures

pub returns : goal.returns
returns c = search (rules, back_performed)
