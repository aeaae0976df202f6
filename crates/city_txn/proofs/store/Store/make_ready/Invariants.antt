use Rattle.city_txn.proofs.Prelude.{◌≡◌, ℕ, List, true, take, write_of, store_written, Touches, plans}
use Rattle.city_txn.specs.internal.State.{IsReady}
use Rattle.city_txn.proofs.store.Store.make_ready.Given as goal

abbrev pub invariant-loop-write : goal.invariant-loop-write
invariant-loop-write l = record {
  touches : Touches l.stamp (plans l.writes) l.initial.self l.self;
  writes : (q : List ℕ) → write_of l.self.writes q ≡ write_of l.initial.self.writes q;
  marks : store_written l.self l.stamp ≡ store_written l.initial.self l.stamp;
  done : (q : List ℕ) → plans (take l.write-index l.writes) q ≡ true → IsReady l.self l.stamp q;
}
