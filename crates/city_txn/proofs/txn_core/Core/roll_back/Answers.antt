use Rattle.city_txn.proofs.CoreFields.{undone_core}
use Rattle.city_txn.proofs.txn_core.Core.roll_back.Goals as goal

pub invariant_of-self : goal.invariant_of-self
invariant_of-self c =
    (undone_core c.self.invariant _ _ _ c.end.ensures.forgets c.release_all.ensures.modes c.release_all.ensures.lawful
    c.self.view_is c.end.ensures.city).0

pub returns : goal.returns
returns c =
    (undone_core c.self.invariant _ _ _ c.end.ensures.forgets c.release_all.ensures.modes c.release_all.ensures.lawful
    c.self.view_is c.end.ensures.city).1
