use Rattle.city_model.proofs.Prelude.{◌≡◌, ids_left, has_id}
use Rattle.city_model.proofs.id_list.is_among.Given as goal

abbrev pub invariant-loop-other : goal.invariant-loop-other
invariant-loop-other l = has_id (ids_left l.fn.ids) l.id ≡ has_id (ids_left l.other-iterator) l.id
