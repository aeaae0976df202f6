use Rattle.city_model.proofs.Prelude.{rules, ◌∙◌}
use Rattle.city_model.proofs.Objects.{at_viewed, view_changed, removed}
use Rattle.city_model.proofs.city.City.remove.Goals as goal

pub returns-clause-old : goal.returns-clause-old
returns-clause-old c =
    c.remove.ensures.value ∙ at_viewed _ _ _ c.args.id.now c.self.invariant c.self.view_is

pub returns-clause-objects : goal.returns-clause-objects
returns-clause-objects c = search (rules, removed)

pub returns-clause-map : goal.returns-clause-map
returns-clause-map c = search (rules, view_changed)
