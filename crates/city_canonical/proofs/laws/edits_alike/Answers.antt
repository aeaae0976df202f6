use Rattle.city_canonical.proofs.Edits.{edited}
use Rattle.city_canonical.proofs.laws.edits_alike.Goals as goal

pub returns : goal.returns
returns c = edited
