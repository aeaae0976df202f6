use Rattle.city_txn.proofs.Prelude.{◌≡◌, true, false, length, store_written, Touches, log_of, has_mark}
use Rattle.city_model.specs.Marks.{marks_from}
use Rattle.city_txn.proofs.store.Store.go_back.Given as goal

abbrev pub invariant-loop-self : goal.invariant-loop-self
invariant-loop-self l = record {
  has : has_mark (log_of l.self.logs l.stamp) l.name ≡ true;
  marks : marks_from l.name (store_written l.self l.stamp).1
      ≡ marks_from l.name (store_written l.initial.self l.stamp).1;
  touches : Touches l.stamp (λ id. false) l.initial.self l.self;
}

abbrev pub decreases-loop-self : goal.decreases-loop-self
decreases-loop-self l = length (log_of l.self.logs l.stamp)
