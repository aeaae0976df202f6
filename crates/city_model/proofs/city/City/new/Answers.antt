use Rattle.city_model.proofs.Prelude.{ap, Objects}
use Rattle.city_model.proofs.Objects.{of_nothing}
use Rattle.city_model.proofs.city.City.new.Goals as goal

pub returns : goal.returns
returns c = ap (λ (objects : Objects). (c.args.frame, objects)) (of_nothing c.new.result.entries c.new.ensures.empty)
