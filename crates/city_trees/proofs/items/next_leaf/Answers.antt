use Rattle.std.proofs.Common.{◌≡◌, ◌+◌, length, arith}
use Rattle.std.specs.Prelude.{min}
use Rattle.city_trees.proofs.Lists.{next_leaf_items, leaf_end}
use Rattle.city_trees.proofs.items.next_leaf.Goals as goal

pub returns-clause-items : goal.returns-clause-items
returns-clause-items g c =
    let leaf = c.leaf_at-slice.result.now in
    let capped : c.min-next.result ≡ min (c.args.at + length leaf) (length c.args.tree.now) = grind arith in
    next_leaf_items leaf c.args.tree.now c.args.at c.min-next.result c.leaf_at-slice.ensures.items capped

pub returns-clause-end : goal.returns-clause-end
returns-clause-end g c = leaf_end c.leaf_at-slice.result.now c.args.tree.now c.args.at c.leaf_at-slice.ensures.some
