use Rattle.std.proofs.Common.{ap, subst, sym, ◌∙◌, false, ◌≡◌, ℕ}
use Rattle.std.proofs.lemmas.Bool.{false≢true}
use Rattle.city_txn.specs.CoreState.{is_open}
use Rattle.city_session.specs.Live.{SessionState}
use Rattle.city_session.proofs.session.Session.into_city.Goals as goal

pub returns-in-Ok-clause-city : goal.returns-in-Ok-clause-city
returns-in-Ok-clause-city c =
    c.in-Ok.ensures.city ∙ ap (λ (v : SessionState). (v.core.frame, v.core.city)) c.self.view_is

pub returns-in-Err-clause-idle : goal.returns-in-Err-clause-idle
returns-in-Err-clause-idle c = (
  λ e. absurd (false≢true e),
  λ all. c.in-Err.ensures.idle.1
      (subst (λ (v : SessionState). (t : ℕ) → is_open v.core t ≡ false) (sym c.self.view_is) all),
)
