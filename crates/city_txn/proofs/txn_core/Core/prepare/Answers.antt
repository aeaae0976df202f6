use Rattle.city_txn.proofs.Prelude.{subst, CoreState, IsChangeOf, IsLawful, view}
use Rattle.std.specs.Prelude.{IfNone}
use Rattle.city_txn.specs.internal.Prelude.{change_in}
use Rattle.city_txn.proofs.ChangeMade.{is_change_of}
use Rattle.city_txn.proofs.txn_core.Core.prepare.Goals as goal

pub returns-clause-prepared : goal.returns-clause-prepared
returns-clause-prepared c =
    let v = c.args.self.now in let s = c.args.stamp in
    let allowed = subst (λ x. IfNone x (IsChangeOf v s (change_in v.writes s))) c.in_default.is
    c.in_ok-cause.ensures.allowed in
    subst (λ (u : CoreState). IsLawful (view u s) → IsChangeOf u s c.in-Ok.change) c.self.view_is
    (is_change_of _ _ _ c.in-Ok.ensures.lists c.in-Ok.ensures.ordered) allowed.lawful
