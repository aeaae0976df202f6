use Rattle.city_members.proofs.Prelude.{rules}
use Rattle.city_members.proofs.AttributeLaws.{none_among}
use Rattle.city_members.proofs.attributes.has_attributes.Goals as goal

pub returns-in-None-found : goal.returns-in-None-found
returns-in-None-found c = search (rules, none_among)
