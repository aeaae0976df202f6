use Rattle.city_model.proofs.Prelude.{◌≡◌, list_all, ids_left, object_at, parent_fits}
use Rattle.city_model.proofs.relations.parents_fit.Given as goal

abbrev pub invariant-loop-parent : goal.invariant-loop-parent
invariant-loop-parent l =
    list_all (λ p. parent_fits l.id l.object p (object_at l.city.1 p)) l.object.parents
    ≡ list_all (λ p. parent_fits l.id l.object p (object_at l.city.1 p)) (ids_left l.parent-iterator)
