use Rattle.city_model.proofs.Prelude.{◌≡◌, false, take, has_id}
use Rattle.city_model.specs.Chunks.{ids_of}
use Rattle.city_model.proofs.id_tree.find_labelled.Given as goal

abbrev pub invariant-loop-at : goal.invariant-loop-at
invariant-loop-at l = has_id (take l.at (ids_of l.entries)) l.id ≡ false
