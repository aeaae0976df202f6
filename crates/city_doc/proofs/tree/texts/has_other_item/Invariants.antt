use Rattle.city_doc.proofs.Prelude.{◌≡◌, drop, is_none, as_str, items_view, read_items}
use Rattle.city_doc.proofs.tree.texts.has_other_item.Given as goal

abbrev pub invariant-loop-item : goal.invariant-loop-item
invariant-loop-item l =
    is_none (read_items as_str (items_view l.items.items))
    ≡ is_none (read_items as_str (items_view (drop l.item-index l.items.items)))
