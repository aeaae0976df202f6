use Rattle.city_scheduler.proofs.Prelude.{ap, ◌∙◌, object_at, CityValue, model_after}
use Rattle.city_scheduler.proofs.desk.Desk.close.Goals as goal

pub returns-clause-city : goal.returns-clause-city
returns-clause-city g c =
    ap (λ (x : CityValue). object_at x.1) c.in-Ok.ensures.city
    ∙ (c.roll_back_all.ensures.keeps.city ∙ (c.self.invariant.0.city
    ∙ ap (λ v. model_after v.0.scripts (object_at v.0.start.1) v.0.ends) c.self.view_is))
