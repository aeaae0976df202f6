use Rattle.city_scripts.proofs.Prelude.{◌≡◌, ◌++◌, map, into_iter_items, view, script_of_item, all_read}
use Rattle.std.proofs.Common.{option_map}
use Rattle.city_scripts.proofs.read.scripts_of_items.Given as goal

abbrev pub invariant-loop-item : goal.invariant-loop-item
invariant-loop-item l =
    all_read script_of_item (map view l.fn.items.items) ≡ option_map (λ ss. l.scripts ++ ss)
    (all_read script_of_item (map view (into_iter_items l.item-iterator)))
