use Rattle.city_txn.proofs.Prelude.{false, rules}
use Rattle.city_txn.proofs.Touched.{touches_on}
use Rattle.city_txn.proofs.UndoLogs.{undone_marks, undone_has}
use Rattle.city_txn.proofs.store.Store.go_back.Goals as goal

pub loop-self-preserved : goal.loop-self-preserved
loop-self-preserved c =
    let i = c.loop-self.invariant in
    record {
      has = search (rules, undone_has);
      marks = search (rules, undone_marks);
      touches = touches_on c.args.stamp (λ id. false) _ _ _ i.touches c.undo_newest.ensures.touches;
    }
