use Rattle.city_txn.proofs.Prelude.{arith, None, refl}
use Rattle.city_txn.proofs.StoreChanged.{OwnWritten, own_written}
use Rattle.city_txn.proofs.store.Store.restore.Goals.{After-unwrite}
use Rattle.city_txn.proofs.store.Store.restore.Goals as goal

done : (c : After-unwrite) → OwnWritten c.args.self.now
    (record c.self.inside { city = c.unwrite.new.city; transactions = c.unwrite.new.self }) c.args.stamp c.args.id None
done c =
    own_written c.self.inside c.self.invariant c.self.view_is c.args.stamp c.args.id c.requires c.unwrite.new.city
    c.unwrite.new.self c.unwrite.ensures.became c.unwrite.ensures.reservations None
    c.self.inside.may_have_orphan (λ h. (h, refl))
    (λ mine room. grind arith)

pub invariant_of-self : goal.invariant_of-self
invariant_of-self c = (done (goal.at.invariant_of-self c).After-unwrite).in_place

pub returns-in-None : goal.returns-in-None
returns-in-None c =
    let at = done (goal.at.returns-in-None c).After-unwrite in
    record { one = rw c.in-None.is at.one; others = at.others }
