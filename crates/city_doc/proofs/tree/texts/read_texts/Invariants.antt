use Rattle.city_doc.proofs.Prelude.{◌≡◌, ◌++◌, into_iter_items, as_str, items_view, read_items}
use Rattle.std.proofs.Common.{option_map}
use Rattle.city_doc.proofs.tree.texts.read_texts.Given as goal

-- the ones found, and then the rest
abbrev pub invariant-loop-item : goal.invariant-loop-item
invariant-loop-item l =
    read_items as_str (items_view l.fn.items.items) ≡ option_map (λ texts. l.texts ++ texts)
    (read_items as_str (items_view (into_iter_items l.item-iterator)))
