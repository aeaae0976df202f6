use Rattle.city_model.proofs.Prelude.{◌≡◌, ◌++◌}
use Rattle.std.specs.Vec.Iter.{into_iter_items}
use Rattle.city_model.specs.Chunks.{ids_of}
use Rattle.city_model.proofs.indexed_ids.IndexedIds.from_vec.Given as goal

abbrev pub invariant-loop-id : goal.invariant-loop-id
invariant-loop-id l = ids_of l.items.items ++ into_iter_items l.id-iterator ≡ l.fn.ids.items
