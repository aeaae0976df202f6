use Rattle.city_doc.proofs.Prelude.{rules}
use Rattle.city_doc.proofs.document.Begun.{first_begun}
use Rattle.city_doc.proofs.document.LawfulTrees.{refused, refused_result}
use Rattle.city_doc.proofs.document.read.read_tree.Goals as goal

pub returns-in_err-tree-clause-refused : goal.returns-in_err-tree-clause-refused
returns-in_err-tree-clause-refused c = refused_result c.args.bytes.now c.from_residual.result (search rules)

pub returns-in-Err-clause-fault : goal.returns-in-Err-clause-fault
returns-in-Err-clause-fault c =
    first_begun c.args.bytes.now _ _ _ c.in_ok-tree.ensures.tree (rw c.in-Err.is at c.in_ok-city.ensures)
    c.remove.ensures.value

pub returns-in-Err-clause-refused : goal.returns-in-Err-clause-refused
returns-in-Err-clause-refused c = refused c.args.bytes.now c.remove.result
    (first_begun c.args.bytes.now _ _ _ c.in_ok-tree.ensures.tree (rw c.in-Err.is at c.in_ok-city.ensures)
    c.remove.ensures.value)
