use Rattle.city_doc.proofs.Prelude.{◌≡◌, ◌++◌, into_iter_items, items_view, read_items, geometry_of}
use Rattle.std.proofs.Common.{option_map}
use Rattle.city_doc.proofs.shape.geometry.read_geometries.Given as goal

-- the ones found, and then the rest
abbrev pub invariant-loop-item : goal.invariant-loop-item
invariant-loop-item l =
    read_items (geometry_of l.points) (items_view l.fn.items.items) ≡ option_map (λ gs. l.found ++ gs)
    (read_items (geometry_of l.points) (items_view (into_iter_items l.item-iterator)))
