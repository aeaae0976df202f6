use Rattle.city_scripts.proofs.Prelude.{◌≡◌, ◌++◌, map, length, into_iter_items, view, all_read, parts_of, parts_views}
use Rattle.city_scripts.proofs.Prelude.{first_at, bad_script}
use Rattle.std.proofs.Common.{option_map}
use Rattle.city_scripts.proofs.parts.forms_of.Given as goal

abbrev pub invariant-loop-item : goal.invariant-loop-item
invariant-loop-item l =
    (all_read parts_of (map view l.fn.items.items) ≡ option_map (λ ps. parts_views l.forms ++ ps)
    (all_read parts_of (map view (into_iter_items l.item-iterator))))
    × (first_at bad_script 0 (map view l.fn.items.items) ≡ first_at bad_script (length l.forms)
    (map view (into_iter_items l.item-iterator)))
