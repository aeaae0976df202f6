use Rattle.city_txn.proofs.Prelude.{◌∙◌}
use Rattle.city_txn.proofs.AtOneId.{here, by_seen}
use Rattle.city_txn.proofs.store.Store.has_written.Goals as goal

pub returns-in-Some : goal.returns-in-Some
returns-in-Some c = c.is_by.ensures (here c.self.inside c.args.id.now)
    ∙ by_seen c.self.inside c.self.invariant c.self.view_is c.args.id.now c.in-Some.ensures c.args.stamp

pub returns-in-None : goal.returns-in-None
returns-in-None c =
    by_seen c.self.inside c.self.invariant c.self.view_is c.args.id.now c.in-None.ensures c.args.stamp
