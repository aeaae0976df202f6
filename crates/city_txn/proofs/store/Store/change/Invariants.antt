use Rattle.city_txn.proofs.Prelude.{◌≡◌, ℕ, List, None, take, if◌then◌else◌, keys_of, IsStrictlySortedBy, slice_cmp}
use Rattle.city_txn.proofs.Prelude.{has_id, write_in, store_own}
use Rattle.std.proofs.Common.{nat_cmp}
use Rattle.city_txn.proofs.store.Store.change.Given as goal

abbrev pub invariant-loop-id : goal.invariant-loop-id
invariant-loop-id l = record {
  lists : (q : List ℕ) → write_in l.change q
      ≡ (if has_id (take l.id-index l.ids) q then store_own l.self l.stamp q else None);
  ordered : IsStrictlySortedBy (slice_cmp nat_cmp) (keys_of l.change);
}
