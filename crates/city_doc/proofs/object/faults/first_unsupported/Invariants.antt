use Rattle.city_doc.proofs.Prelude.{◌≡◌, drop, items_view, first_unsupported}
use Rattle.city_doc.proofs.object.faults.first_unsupported.Given as goal

abbrev pub invariant-loop-geometry : goal.invariant-loop-geometry
invariant-loop-geometry l =
    first_unsupported (items_view l.geometries.items) ≡ first_unsupported
    (items_view (drop l.geometry-index l.geometries.items))
