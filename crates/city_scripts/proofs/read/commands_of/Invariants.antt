use Rattle.city_scripts.proofs.Prelude.{◌≡◌, ◌++◌, map, into_iter_items, view, command_of, all_read}
use Rattle.std.proofs.Common.{option_map}
use Rattle.city_scripts.proofs.read.commands_of.Given as goal

abbrev pub invariant-loop-item : goal.invariant-loop-item
invariant-loop-item l =
    all_read (command_of l.points) (map view l.fn.items.items) ≡ option_map (λ cs. l.commands ++ cs)
    (all_read (command_of l.points) (map view (into_iter_items l.item-iterator)))
