use Rattle.city_model.proofs.IdTrees.{entry_absent}
use Rattle.city_model.proofs.id_tree.find.Goals as goal

pub returns-else-has_at-clause-none : goal.returns-else-has_at-clause-none
returns-else-has_at-clause-none c =
    entry_absent c.args.entries.now c.args.id.now c.place_of_id-at.result c.requires c.place_of_id-at.ensures
    (c.has_at.ensures.other c.if-has_at.false)
