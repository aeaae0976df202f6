use Rattle.city_doc.proofs.Prelude.{◌≡◌, ◌++◌, drop, items_view, read_items}
use Rattle.std.proofs.Common.{option_map}
use Rattle.city_doc.proofs.shape.nested.read_items.Given as goal

-- the ones found, and then the rest
abbrev pub invariant-loop-item : goal.invariant-loop-item
invariant-loop-item g l =
    read_items (g.T.Nested.reads l.points) (items_view l.items.items) ≡ option_map (λ xs. l.found ++ xs)
    (read_items (g.T.Nested.reads l.points) (items_view (drop l.item-index l.items.items)))
