use Rattle.city_model.proofs.Prelude.{arith}
use Rattle.city_model.proofs.IdTrees.{none_more, none_at_all}
use Rattle.city_model.proofs.id_tree.find_labelled.Goals as goal

pub loop-at-preserved : goal.loop-at-preserved
loop-at-preserved c =
    none_more c.args.entries.now c.args.id.now c.loop-at.at c.loop-at.invariant
    (c.has_at-in-loop-at.ensures.other c.if-has_at-2.false)

pub returns-clause-none : goal.returns-clause-none
returns-clause-none c = none_at_all c.args.entries.now c.args.id.now c.loop-at.at c.loop-at.invariant (omega arith)
