use Rattle.city_trees.proofs.Lists.{set_at_place}
use Rattle.city_trees.proofs.leaf.put.Goals as goal

pub returns : goal.returns
returns g c = set_at_place c.args.at c.args.item c.args.items.now c.requires
