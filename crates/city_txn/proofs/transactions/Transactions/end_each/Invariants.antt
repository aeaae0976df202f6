use Rattle.city_txn.proofs.Prelude.{take, ◌≡◌, None, has_id, object_at, left_at_end, Became, image_at}
use Rattle.city_txn.proofs.transactions.Transactions.end_each.Given as goal

abbrev pub invariant-loop-id : goal.invariant-loop-id
invariant-loop-id l = record {
  became : Became (has_id (take l.id-index l.ids))
      (λ q. left_at_end l.end (object_at l.initial.city.1 q) (image_at l.initial.self.images q)) (λ q. None)
      l.initial.city l.city l.initial.self.images l.self.images;
  reservations : l.self.reservations ≡ l.initial.self.reservations;
}
