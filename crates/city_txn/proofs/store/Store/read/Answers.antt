use Rattle.city_txn.proofs.Prelude.{Some, ◌∙◌, ap, own_or, committed_at, write_at}
use Rattle.city_txn.proofs.AtOneId.{view_seen}
use Rattle.city_txn.proofs.store.Store.read.Goals as goal

pub returns-in-Some : goal.returns-in-Some
returns-in-Some c =
    let i = Some c.in-Some.image.now in
    c.seen_by.ensures ∙ ap (λ x. own_or c.args.stamp (write_at x i) (committed_at x i)) c.get.ensures
    ∙ view_seen c.self.inside c.self.invariant c.self.view_is c.args.id.now c.in-Some.ensures c.args.stamp

pub returns-in-None : goal.returns-in-None
returns-in-None c =
    c.get-in-None.ensures
    ∙ view_seen c.self.inside c.self.invariant c.self.view_is c.args.id.now c.in-None.ensures c.args.stamp
