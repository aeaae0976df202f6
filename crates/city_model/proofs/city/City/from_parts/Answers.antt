use Rattle.city_model.proofs.Objects.{entries_of}
use Rattle.city_model.proofs.city.City.from_parts.Goals as goal

pub returns-clause-entries : goal.returns-clause-entries
returns-clause-entries c = entries_of c.args.objects.entries c.len-count.ensures.ordered
