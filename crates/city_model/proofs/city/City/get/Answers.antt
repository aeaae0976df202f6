use Rattle.city_model.proofs.Prelude.{◌∙◌}
use Rattle.city_model.proofs.Objects.{at_viewed}
use Rattle.city_model.proofs.city.City.get.Goals as goal

pub returns : goal.returns
returns c = c.get.ensures.value ∙ at_viewed _ _ _ c.args.id.now c.self.invariant c.self.view_is
