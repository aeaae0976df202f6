use Rattle.city_doc.proofs.Prelude.{◌≡◌, list_all, ids_left}
use Rattle.city_model.specs.internal.RelationTests.{parent_fits}
use Rattle.city_doc.specs.internal.document.ReadObjects.{built_in}
use Rattle.city_doc.proofs.document.indexed.parents_fit.Given as goal

abbrev pub invariant-loop-parent : goal.invariant-loop-parent
invariant-loop-parent l =
    list_all (λ p. parent_fits l.id l.object p (built_in l.objects.entries p)) l.object.parents
    ≡ list_all (λ p. parent_fits l.id l.object p (built_in l.objects.entries p)) (ids_left l.parent-iterator)
