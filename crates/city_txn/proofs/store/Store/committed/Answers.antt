use Rattle.city_txn.proofs.Prelude.{Some, ◌∙◌, ap, committed_at}
use Rattle.city_txn.proofs.AtOneId.{committed_seen}
use Rattle.city_txn.proofs.store.Store.committed.Goals as goal

pub returns-in-Some : goal.returns-in-Some
returns-in-Some c =
    let i = Some c.in-Some.image.now in
    c.committed.ensures ∙ ap (λ x. committed_at x i) c.get.ensures
    ∙ committed_seen c.self.inside c.self.invariant c.self.view_is c.args.id.now c.in-Some.ensures

pub returns-in-None : goal.returns-in-None
returns-in-None c =
    c.get-in-None.ensures
    ∙ committed_seen c.self.inside c.self.invariant c.self.view_is c.args.id.now c.in-None.ensures
