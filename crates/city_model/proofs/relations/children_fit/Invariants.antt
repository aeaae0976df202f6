use Rattle.city_model.proofs.Prelude.{◌≡◌, list_all, ids_left, object_at, has_id, parents_of}
use Rattle.city_model.proofs.relations.children_fit.Given as goal

abbrev pub invariant-loop-child : goal.invariant-loop-child
invariant-loop-child l =
    list_all (λ d. has_id (parents_of (object_at l.city.1 d)) l.id) l.object.children
    ≡ list_all (λ d. has_id (parents_of (object_at l.city.1 d)) l.id) (ids_left l.child-iterator)
