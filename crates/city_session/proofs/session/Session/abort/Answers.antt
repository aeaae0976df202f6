use Rattle.std.proofs.Common.{sym, subst}
use Rattle.city_txn.specs.CoreState.{IsRolledBack}
use Rattle.city_session.specs.Live.{SessionState}
use Rattle.city_session.proofs.Recorded.{undone_end, seen_ended}
use Rattle.city_session.proofs.session.Session.abort.Goals as goal

pub invariant_of-self : goal.invariant_of-self
invariant_of-self c =
    rw c.with.ensures (undone_end c.self.invariant c.args.stamp c.roll_back.ensures.over.keeps
    c.roll_back.ensures.over.closed c.in-Some.ensures.left c.in-Some.transaction (sym c.in-Some.ensures.taken)
    c.in-Some.ensures.within c.roll_back.ensures.city _ c.saturating_add-self-inside.ensures)

pub returns-clause-ended : goal.returns-clause-ended
returns-clause-ended c =
    seen_ended c.self.view_is c.in-Some.transaction _ (sym c.in-Some.ensures.taken) c.with.ensures c.in-Some.ensures.left
    c.roll_back.ensures.over

pub returns-clause-undone : goal.returns-clause-undone
returns-clause-undone c =
    subst (λ (v : SessionState). IsRolledBack c.args.stamp v.core c.roll_back.new.self) c.self.view_is
    c.roll_back.ensures
