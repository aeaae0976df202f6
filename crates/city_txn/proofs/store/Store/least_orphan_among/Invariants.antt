use Rattle.city_txn.proofs.Prelude.{take, is_orphan_there, store_view}
use Rattle.std.proofs.Common.{option_copied}
use Rattle.city_txn.specs.internal.LeastAmong.{IsLeastAmong}
use Rattle.city_txn.proofs.store.Store.least_orphan_among.Given as goal

abbrev pub invariant-loop-id : goal.invariant-loop-id
invariant-loop-id l =
    IsLeastAmong (λ id. is_orphan_there (store_view l.self l.stamp id)) (take l.id-index l.ids) (option_copied l.least)
