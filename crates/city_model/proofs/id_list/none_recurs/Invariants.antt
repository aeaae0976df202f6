use Rattle.city_model.proofs.Prelude.{◌≡◌, length, ids_left, are_distinct}
use Rattle.city_model.proofs.id_list.none_recurs.Given as goal

abbrev pub invariant-loop-first : goal.invariant-loop-first
invariant-loop-first l = are_distinct (ids_left l.fn.ids) ≡ are_distinct (ids_left l.left)

abbrev pub decreases-loop-first : goal.decreases-loop-first
decreases-loop-first l = length (ids_left l.left)
