use Rattle.city_model.proofs.Prelude.{rules}
use Rattle.city_model.proofs.Lawfulness.{first_orphan, is_least_orphan, has_no_orphan}
use Rattle.city_model.proofs.orphans.least_orphan.Goals as goal

pub returns-then-is_orphan-clause-least : goal.returns-then-is_orphan-clause-least
returns-then-is_orphan-clause-least c = search (rules, is_least_orphan, first_orphan)

pub returns-clause-none : goal.returns-clause-none
returns-clause-none c = search (rules, has_no_orphan, first_orphan)
