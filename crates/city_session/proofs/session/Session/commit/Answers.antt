use Rattle.std.proofs.Common.{ap, sym, subst, ◌∙◌}
use Rattle.city_model.specs.Relations.{HasNoOrphan}
use Rattle.city_txn.specs.CoreState.{view}
use Rattle.city_session.specs.Live.{SessionState}
use Rattle.city_session.proofs.Recorded.{committed_end, seen_ended}
use Rattle.city_session.proofs.session.Session.commit.Goals as goal

pub invariant_of-self : goal.invariant_of-self
invariant_of-self c =
    let none = subst (λ (v : SessionState). HasNoOrphan (view v.core c.args.stamp)) (sym c.self.view_is) c.requires.allowed in
    rw c.with.ensures (committed_end c.self.invariant c.args.stamp c.commit.ensures.over.keeps
    c.commit.ensures.over.closed c.in-Some.ensures.left c.in-Some.transaction (sym c.in-Some.ensures.taken)
    c.in-Some.ensures.within none c.commit.ensures.city _ c.saturating_add-self-inside.ensures)

pub returns-clause-ended : goal.returns-clause-ended
returns-clause-ended c =
    seen_ended c.self.view_is c.in-Some.transaction _ (sym c.in-Some.ensures.taken) c.with.ensures c.in-Some.ensures.left
    c.commit.ensures.over

pub commit-requires-clause-no_orphan : goal.commit-requires-clause-no_orphan
commit-requires-clause-no_orphan c =
    subst (λ (v : SessionState). HasNoOrphan (view v.core c.args.stamp)) (sym c.self.view_is) c.requires.allowed

pub returns-clause-city : goal.returns-clause-city
returns-clause-city c =
    c.commit.ensures.city ∙ ap (λ (v : SessionState). view v.core c.args.stamp) c.self.view_is
