use Rattle.city_txn.proofs.Prelude.{store_view}
use Rattle.city_txn.proofs.command_locks.first_conflict.Goals as goal

pub returns : goal.returns
returns c =
    let m = store_view c.args.store.now c.args.stamp in
    rw (c.in-Some.ensures.first m, c.further_locks-others.ensures) c.first_conflict.ensures
