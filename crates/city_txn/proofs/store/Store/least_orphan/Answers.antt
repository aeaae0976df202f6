use Rattle.city_txn.proofs.Prelude.{arith}
use Rattle.city_txn.proofs.ChangeMade.{none_seen, least_seen, none_written}
use Rattle.city_txn.proofs.store.Store.least_orphan.Goals as goal

pub returns-clause-none : goal.returns-clause-none
returns-clause-none c =
    none_seen c.self.inside c.self.invariant c.args.self.now c.self.view_is c.args.stamp c.reserved.result.now
    c.reserved.ensures c.requires (λ x. x.now) c.least_orphan_among.result c.least_orphan_among.ensures

pub returns-clause-least : goal.returns-clause-least
returns-clause-least c =
    least_seen c.self.inside c.self.invariant c.args.self.now c.self.view_is c.args.stamp c.reserved.result.now
    c.reserved.ensures c.requires (λ x. x.now) c.least_orphan_among.result c.least_orphan_among.ensures

pub returns-then-not-self-clause-none : goal.returns-then-not-self-clause-none
returns-then-not-self-clause-none c =
    none_written c.self.inside c.self.invariant c.args.self.now c.self.view_is c.args.stamp
    (let is = c.if-not-self.true in grind arith) c.requires
