use Rattle.city_trees.specs.Items.{items_left}
use Rattle.city_model.proofs.IdIndexes.{IsIndexing}
use Rattle.city_model.proofs.indexed_ids.index_of.Given as goal

abbrev pub invariant-loop-item : goal.invariant-loop-item
invariant-loop-item l = IsIndexing l.by_id (items_left l.item-iterator) l.by_place
