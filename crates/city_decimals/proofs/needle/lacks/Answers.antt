use Rattle.city_decimals.proofs.Prelude.{rules}
use Rattle.city_decimals.proofs.Needles.{lacks_found}
use Rattle.city_decimals.proofs.needle.lacks.Goals as goal

pub returns : goal.returns
returns c = search (rules, lacks_found)
