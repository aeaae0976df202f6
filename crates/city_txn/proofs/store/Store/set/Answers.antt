use Rattle.city_txn.proofs.Prelude.{arith, Some}
use Rattle.city_txn.proofs.StoreChanged.{OwnWritten, own_written}
use Rattle.city_txn.proofs.store.Store.set.Goals.{After-write}
use Rattle.city_txn.proofs.store.Store.set.Goals as goal

done : (c : After-write) → OwnWritten c.args.self.now
    (record c.self.inside {
      city = c.write.new.city;
      transactions = c.write.new.self;
      may_have_orphan = c.has_orphan_then-self-inside.result;
    }) c.args.stamp c.args.id
    (Some (c.args.stamp, c.args.object))
done c =
    own_written c.self.inside c.self.invariant c.self.view_is c.args.stamp c.args.id c.requires c.write.new.city
    c.write.new.self c.write.ensures.became c.write.ensures.reservations (Some (c.args.stamp, c.args.object))
    c.has_orphan_then-self-inside.result (λ h. let may = c.has_orphan_then-self-inside.ensures in grind arith)
    (λ mine room. grind arith)

pub invariant_of-self : goal.invariant_of-self
invariant_of-self c = (done (goal.at.invariant_of-self c).After-write).in_place

pub returns : goal.returns
returns c = let at = done (goal.at.returns c).After-write in record { one = at.one; others = at.others }
