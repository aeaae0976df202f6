use Rattle.city_decimals.proofs.Kept.{kept, transform_kept}
use Rattle.city_decimals.proofs.laws.what_is_kept.Goals as goal

pub returns-clause-values : goal.returns-clause-values
returns-clause-values c = kept

pub returns-clause-transforms : goal.returns-clause-transforms
returns-clause-transforms c = transform_kept
