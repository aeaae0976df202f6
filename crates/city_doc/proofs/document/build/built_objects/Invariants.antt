use Rattle.city_doc.proofs.document.ReadObjects.{IsBuilding}
use Rattle.city_doc.proofs.document.build.built_objects.Given as goal

abbrev pub invariant-loop-id : goal.invariant-loop-id
invariant-loop-id l = IsBuilding l.fn.objects.entries l.listed.items l.id-iterator
