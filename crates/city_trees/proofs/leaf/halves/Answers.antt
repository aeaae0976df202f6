use Rattle.std.proofs.Common.{arith}
use Rattle.city_trees.proofs.Lists.{put_front_by, put_back_by}
use Rattle.city_trees.proofs.leaf.halves.Goals as goal

pub returns-then-at-middle : goal.returns-then-at-middle
returns-then-at-middle g c =
    put_front_by c.args.at c.middle_for-middle.result c.args.item c.args.items.items _ _ _ _ (omega arith)
    (omega (arith, c.args.items.ok.0)) c.in_ok-right.ensures.items c.in_ok-right.ensures.tail
    c.in_ok-insert.ensures.items
    c.in_ok-tree.ensures

pub returns : goal.returns
returns g c =
    put_back_by c.args.at c.middle_for-middle.result c.args.item c.args.items.items _ _ _ _ (omega arith)
    c.requires c.in_ok-right.ensures.items c.in_ok-right.ensures.tail c.in_ok-insert-2.ensures.items
    c.in_ok-tree-2.ensures
