use Rattle.city_txn.proofs.Prelude.{◌≡◌, length}
use Rattle.city_txn.specs.internal.Ending.{EndedBut}
use Rattle.city_txn.proofs.transactions.Transactions.end_all.Given as goal

abbrev pub invariant-loop-id : goal.invariant-loop-id
invariant-loop-id l = record {
  ended : EndedBut l.end l.initial.city l.city l.initial.self.images l.self.images;
  reservations : l.self.reservations ≡ l.initial.self.reservations;
}

abbrev pub decreases-loop-id : goal.decreases-loop-id
decreases-loop-id l = length l.self.images.entries
