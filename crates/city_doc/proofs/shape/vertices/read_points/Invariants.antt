use Rattle.city_doc.proofs.Prelude.{◌≡◌, ◌++◌, drop, items_view, read_items, point_of}
use Rattle.std.proofs.Common.{option_map}
use Rattle.city_doc.proofs.shape.vertices.read_points.Given as goal

-- the ones found, and then the rest
abbrev pub invariant-loop-item : goal.invariant-loop-item
invariant-loop-item l =
    read_items point_of (items_view l.items.items) ≡ option_map (λ ps. l.points ++ ps)
    (read_items point_of (items_view (drop l.item-index l.items.items)))
