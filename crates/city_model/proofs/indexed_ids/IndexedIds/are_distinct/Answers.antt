use Rattle.city_model.proofs.Prelude.{◌∙◌, ap, are_increasing, are_distinct}
use Rattle.city_model.proofs.IdIndexes.{index_distinct}
use Rattle.city_model.proofs.indexed_ids.IndexedIds.are_distinct.Goals as goal

pub returns : goal.returns
returns c =
    c.are_increasing.ensures ∙ ap are_increasing c.in_tree.ensures
    ∙ index_distinct _ _ c.self.invariant ∙ ap are_distinct c.self.view_is
