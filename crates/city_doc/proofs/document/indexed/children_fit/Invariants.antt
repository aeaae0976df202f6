use Rattle.city_doc.proofs.Prelude.{◌≡◌, list_all, ids_left, has_id}
use Rattle.city_model.specs.CityMap.{parents_of}
use Rattle.city_doc.specs.internal.document.ReadObjects.{built_in}
use Rattle.city_doc.proofs.document.indexed.children_fit.Given as goal

abbrev pub invariant-loop-child : goal.invariant-loop-child
invariant-loop-child l =
    list_all (λ d. has_id (parents_of (built_in l.objects.entries d)) l.id) l.object.children
    ≡ list_all (λ d. has_id (parents_of (built_in l.objects.entries d)) l.id) (ids_left l.child-iterator)
