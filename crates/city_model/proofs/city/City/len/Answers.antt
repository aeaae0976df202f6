use Rattle.city_model.proofs.Prelude.{rules}
use Rattle.city_model.proofs.Objects.{len_of}
use Rattle.city_model.proofs.city.City.len.Goals as goal

pub returns : goal.returns
returns c = search (rules, len_of)
