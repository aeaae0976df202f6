use Rattle.city_txn.proofs.Prelude.{◌∙◌, ap, CoreState, view}
use Rattle.city_txn.proofs.CoreFields.{committed_core}
use Rattle.city_txn.proofs.txn_core.Core.commit.Goals as goal

pub invariant_of-self : goal.invariant_of-self
invariant_of-self c =
    (committed_core c.self.invariant _ _ _ c.end.ensures.forgets c.release_all.ensures.modes
    c.release_all.ensures.lawful c.end.ensures.city c.self.view_is c.requires.no_orphan).0

pub returns : goal.returns
returns c =
    let done = committed_core c.self.invariant _ _ _ c.end.ensures.forgets c.release_all.ensures.modes
    c.release_all.ensures.lawful c.end.ensures.city c.self.view_is c.requires.no_orphan in
    record {
      city = c.end.ensures.city ∙ ap (λ (v : CoreState). view v c.args.stamp) c.self.view_is;
      over = done.1;
      lawful = done.0.state.city;
    }
