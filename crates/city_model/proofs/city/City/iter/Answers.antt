use Rattle.city_model.proofs.Prelude.{rules}
use Rattle.city_model.proofs.Objects.{entries_of}
use Rattle.city_model.proofs.city.City.iter.Goals as goal

pub returns : goal.returns
returns c = search (rules, entries_of)
