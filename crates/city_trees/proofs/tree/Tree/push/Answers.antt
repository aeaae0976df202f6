use Rattle.city_trees.proofs.Lists.{pushed}
use Rattle.city_trees.proofs.tree.Tree.push.Goals as goal

pub returns : goal.returns
returns g c = pushed c.len-at.result c.args.item c.args.self c.in_ok-tree.tree c.len-at.ensures c.in_ok-tree.ensures
