use Rattle.city_txn.proofs.Prelude.{sym, subst, CoreState, IsChangeOf, snapshot, core_state, store_view}
use Rattle.city_txn.specs.internal.Prelude.{change_in, Orphan, IsLeastOrphan, RefusesCommit}
use Rattle.city_model.proofs.Endings.{commit_refused}
use Rattle.city_txn.proofs.ChangeMade.{is_change_of}
use Rattle.city_txn.proofs.CoreFields.{sound_view}
use Rattle.city_txn.proofs.txn_core.Core.refusal.Goals as goal

pub least_orphan-requires : goal.least_orphan-requires
least_orphan-requires c = c.self.invariant.state.city.1

pub returns-in_default-clause-allowed : goal.returns-in_default-clause-allowed
returns-in_default-clause-allowed c =
    let e = c.in_default.ensures in
    subst (λ (v : CoreState). IsChangeOf v c.args.stamp (change_in v.writes c.args.stamp)) c.self.view_is
    (is_change_of _ _ _ e.lists e.ordered (sound_view _ _ c.self.invariant.state, e.none))

pub returns-clause-refused : goal.returns-clause-refused
returns-clause-refused c =
    let v = core_state c.self.inside in
    subst (λ (v : CoreState). RefusesCommit v c.args.stamp (Orphan c.in-Ok.id)) c.self.view_is
    (commit_refused (snapshot v c.args.stamp) _
    (subst (IsLeastOrphan (store_view c.self.inside.store c.args.stamp)) (sym c.in-Ok.ensures) c.in-Some.ensures.least))
