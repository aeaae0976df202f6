use Rattle.city_model.proofs.Prelude.{◌∙◌}
use Rattle.city_model.proofs.plan.amending.body_of.Goals as goal

pub returns : goal.returns
returns c =
    c.in_ok-shared.ensures
    ∙ (λ i. record { kind = c.args.kind; geometry = c.in_ok-geometry.ensures i; extra = c.args.extra })
