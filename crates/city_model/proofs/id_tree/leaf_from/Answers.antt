use Rattle.city_model.proofs.Prelude.{◌≡◌, ◌+◌, length, arith}
use Rattle.std.specs.Prelude.{min}
use Rattle.city_trees.proofs.Lists.{next_leaf_items}
use Rattle.city_model.proofs.id_tree.leaf_from.Goals as goal

pub returns-clause-items : goal.returns-clause-items
returns-clause-items c =
    let leaf = c.leaf_at-items.result.now in
    let capped : c.min-next.result ≡ min (c.args.at + length leaf) (length c.args.entries.now) = grind arith in
    next_leaf_items leaf c.args.entries.now c.args.at c.min-next.result c.leaf_at-items.ensures.items capped
