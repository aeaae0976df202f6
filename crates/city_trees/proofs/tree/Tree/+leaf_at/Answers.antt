use Rattle.std.proofs.Common.{◌≡◌, ◌++◌, ◌+◌, ◌-◌, length, ap, sym, ◌∙◌, arith}
use Rattle.city_trees.specs.internal.Nodes.{items_of}
use Rattle.city_trees.proofs.Lists.{leaf_behind}
use Rattle.city_trees.proofs.tree.Tree.+leaf_at.Goals as goal

pub returns-else-at-middle-clause-items : goal.returns-else-at-middle-clause-items
returns-else-at-middle-clause-items g t c =
    let p = c.deref-in-Branch.result.now in let n = c.args.at - c.len-middle.result in
    let sides : p.left ++ p.right ≡ c.args.self.now =
    ap (λ s. s.left ++ s.right) c.deref-in-Branch.ensures ∙ (sym (ap items_of c.in-Branch.is) ∙ c.self.view_is) in
    let l : length p.left + n ≡ c.args.at = omega arith in
    leaf_behind c.leaf_at-else-at-middle.result.now p.left p.right c.args.self.now c.args.at n sides l
    c.leaf_at-else-at-middle.ensures.items
