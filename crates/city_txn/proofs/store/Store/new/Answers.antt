use Rattle.city_txn.proofs.Prelude.{false}
use Rattle.city_txn.proofs.AtOneId.{new_in_place, new_state}
use Rattle.city_txn.proofs.store.Store.new.Goals as goal

pub invariant_of-result : goal.invariant_of-result
invariant_of-result c = new_in_place _ c.new.ensures.images c.new.ensures.reservations c.new-2.ensures

pub returns : goal.returns
returns c =
    new_state (record {
      alloc = c.args.alloc;
      city = c.args.city;
      transactions = c.new.result;
      logs = c.new-2.result;
      may_have_orphan = false;
    })
    c.new.ensures.images c.new.ensures.reservations c.new-2.ensures
