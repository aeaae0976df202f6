use Rattle.city_model.proofs.Prelude.{◌≡◌, take, without_id}
use Rattle.city_model.proofs.id_list.without_id.Given as goal

abbrev pub invariant-loop-other : goal.invariant-loop-other
invariant-loop-other l = l.others ≡ without_id l.id (take l.other-index l.ids)
