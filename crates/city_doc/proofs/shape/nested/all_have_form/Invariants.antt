use Rattle.city_doc.proofs.Prelude.{◌≡◌, drop, items_view, all_items}
use Rattle.city_doc.proofs.shape.nested.all_have_form.Given as goal

abbrev pub invariant-loop-item : goal.invariant-loop-item
invariant-loop-item g l =
    all_items (g.T.Formed.has_form (g.L.Leaf.test l.leaf)) (items_view l.items.items)
    ≡ all_items (g.T.Formed.has_form (g.L.Leaf.test l.leaf)) (items_view (drop l.item-index l.items.items))
