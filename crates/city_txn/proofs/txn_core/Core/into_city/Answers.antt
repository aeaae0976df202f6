use Rattle.city_txn.proofs.Prelude.{◌∙◌, ap, sym, false≢true, CoreState, is_open}
use Rattle.city_txn.proofs.AtOneId.{none_open}
use Rattle.city_txn.proofs.txn_core.Core.into_city.Goals as goal

pub returns-else-is_idle-clause-idle : goal.returns-else-is_idle-clause-idle
returns-else-is_idle-clause-idle c = (
  λ f. absurd (false≢true f),
  λ h. sym c.if-is_idle.false
      ∙ c.is_idle.ensures.1
      (none_open c.self.inside.store.opened (λ t. ap (λ (v : CoreState). is_open v t) c.self.view_is ∙ h t)),
)
