use Rattle.city_model.proofs.Prelude.{rules, ap, ◌∙◌, object_at, is_misrelated}
use Rattle.city_model.proofs.FirstEntry.{first_that}
use Rattle.city_model.proofs.Lawfulness.{least_misrelated, all_related}
use Rattle.city_model.proofs.relations.relations_fault.Goals as goal

pub returns-then-is_misrelated-clause-fault : goal.returns-then-is_misrelated-clause-fault
returns-then-is_misrelated-clause-fault c = search (rules, least_misrelated, first_that)

pub returns-clause-none : goal.returns-clause-none
returns-clause-none c =
    all_related c.args.city.now.1 (c.loop-id.invariant
    ∙ ap (first_that (is_misrelated (object_at c.args.city.now.1))) c.in-None.ensures.steps.0)
