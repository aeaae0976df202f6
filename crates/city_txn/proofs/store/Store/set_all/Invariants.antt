use Rattle.city_txn.proofs.Prelude.{◌≡◌, ℕ, List, true, write_in, write_of, is_reserved, written_with, ChangesWrites}
use Rattle.city_txn.proofs.Prelude.{OthersWritesStay, plans}
use Rattle.std.proofs.Common.{vec_len}
use Rattle.city_txn.proofs.store.Store.set_all.Given as goal

abbrev pub invariant-loop-write : goal.invariant-loop-write
invariant-loop-write l = record {
  only : ChangesWrites l.initial.self l.self;
  others : OthersWritesStay l.stamp l.initial.self l.self;
  reserved : (q : List ℕ) → plans l.writes.items q ≡ true → is_reserved l.self l.stamp q ≡ true;
  writes : (q : List ℕ) → written_with l.stamp (write_in l.writes.items q) (write_of l.self.writes q)
      ≡ written_with l.stamp (write_in l.initial.writes.items q) (write_of l.initial.self.writes q);
}

abbrev pub decreases-loop-write : goal.decreases-loop-write
decreases-loop-write l = vec_len l.writes
