use Rattle.std.proofs.Common.{subst}
use Rattle.city_model.specs.Relations.{IsLawful}
use Rattle.city_scenarios.proofs.shelves.is_made.Goals as goal

pub returns : goal.returns
returns c = λ is m begun. subst IsLawful (c.in_ok-write_steps.ensures m begun) (c.in_ok-lawful.ensures.lawful is)
