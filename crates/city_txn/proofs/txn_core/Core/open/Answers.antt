use Rattle.city_txn.proofs.CoreFields.{opened_core}
use Rattle.city_txn.proofs.txn_core.Core.open.Goals as goal

pub invariant_of-result : goal.invariant_of-result
invariant_of-result c =
    opened_core (record { store = c.new.result; locks = c.new-2.result }) c.args.city.0 c.args.city.1 c.new.ensures
    c.new-2.ensures c.requires
