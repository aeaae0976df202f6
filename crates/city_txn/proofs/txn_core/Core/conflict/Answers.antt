use Rattle.city_txn.proofs.Prelude.{◌≡◌, subst, CoreState, core_state}
use Rattle.city_txn.specs.internal.Prelude.{Granted, answer_in}
use Rattle.city_txn.specs.declared.txn_core.Conflict.{Conflict}
use Rattle.city_txn.specs.Acting.{IsConflict}
use Rattle.city_txn.proofs.Conflicts.{none_in_conflict, is_conflict}
use Rattle.city_txn.proofs.txn_core.Core.conflict.Goals as goal

pub returns-in_err-id-clause-none : goal.returns-in_err-id-clause-none
returns-in_err-id-clause-none c =
    rw c.from_residual.ensures
    (subst (λ (v : CoreState). answer_in v c.args.stamp c.args.command.now ≡ Granted) c.self.view_is
    (none_in_conflict (core_state c.self.inside) c.args.stamp c.args.command.now c.in_err-id.ensures))

pub returns-clause-some : goal.returns-clause-some
returns-clause-some c =
    let conflict : Conflict = record { id = c.in_ok-id.id; mode = c.in_ok-id.mode; holders = c.holders.result } in
    subst (λ (v : CoreState). IsConflict v c.args.stamp c.args.command.now conflict) c.self.view_is
    (is_conflict (core_state c.self.inside) c.args.stamp c.args.command.now conflict c.in_ok-id.ensures
    c.holders.ensures.value c.holders.ensures.once)
