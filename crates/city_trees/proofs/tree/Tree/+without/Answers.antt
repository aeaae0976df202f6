use Rattle.std.proofs.Common.{◌≡◌, ◌++◌, ◌+◌, ◌-◌, [], length, ap, arith}
use Rattle.city_trees.specs.declared.tree.Node.TheVariants.{Branch}
use Rattle.city_trees.specs.internal.Nodes.{items_of}
use Rattle.city_trees.proofs.Lists.{changed_right}
use Rattle.city_trees.proofs.tree.Tree.+without.Goals as goal

pub returns-in_ok-tree-in-Branch-2 : goal.returns-in_ok-tree-in-Branch-2
returns-in_ok-tree-in-Branch-2 g t c =
    let p = c.in_ok-left-in-Branch.field-0 in let n = c.args.at - c.len-middle.result in
    let sides : p.left ++ p.right ≡ c.args.self =
    cc (
      ap (λ s. s.left ++ s.right) c.in_ok-left-in-Branch.ensures,
      ap items_of c.in-Branch.is,
      c.self.view_is,
      ap (λ s. items_of (Branch s)) c.in-Branch.pair-is,
    ) in
    let l : length p.left + n ≡ c.args.at = omega arith in
    let m : length p.left + (n + 1) ≡ c.args.at + 1 = omega arith in
    changed_right c.args.at (c.args.at + 1) n (n + 1) [] p.left p.right _ _ c.args.self sides l m
    c.in_ok-right-in-Branch.ensures c.in_ok-tree-in-Branch-2.ensures
