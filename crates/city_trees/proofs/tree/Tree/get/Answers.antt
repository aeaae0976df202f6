use Rattle.std.proofs.Common.{◌∙◌}
use Rattle.city_trees.proofs.Lists.{first_of_leaf}
use Rattle.city_trees.proofs.tree.Tree.get.Goals as goal

pub returns : goal.returns
returns g c =
    c.first.ensures.value
    ∙ first_of_leaf c.leaf_at.result.now c.args.self.now c.args.at c.leaf_at.ensures.items c.leaf_at.ensures.some
