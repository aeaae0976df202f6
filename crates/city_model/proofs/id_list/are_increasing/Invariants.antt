use Rattle.city_model.proofs.Prelude.{◌≡◌, ids_left, are_increasing, are_increasing_from}
use Rattle.city_model.proofs.id_list.are_increasing.Given as goal

-- the answer for all is the answer for the rest
abbrev pub invariant-loop-id : goal.invariant-loop-id
invariant-loop-id l = are_increasing (ids_left l.fn.ids) ≡ are_increasing_from l.last (ids_left l.id-iterator)
