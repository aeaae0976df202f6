use Rattle.city_doc.proofs.Prelude.{ap, sym, ◌∙◌, items_view, geometry_of}
use Rattle.city_doc.proofs.tree.ReadLists.{read_items-step}
use Rattle.city_doc.proofs.shape.geometry.read_geometries.Goals as goal

pub loop-item-preserved : goal.loop-item-preserved
loop-item-preserved c =
    read_items-step (geometry_of c.args.points.now) _ _ _ _ _ _ _ c.loop-item.invariant
    (ap items_view c.in-Some.ensures.steps.0) (sym c.in_ok-geometry.ensures ∙ c.in-Some-2.is)
    c.in_ok-push-in-Some-2.ensures.ok
