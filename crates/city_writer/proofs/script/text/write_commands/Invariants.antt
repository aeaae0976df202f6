use Rattle.city_writer.proofs.Prelude.{◌≡◌, ◌<◌, List, ◌++◌, drop, length, flat_map, Point, with_points}
use Rattle.std.proofs.Common.{◌^◌}
use Rattle.city_writer.specs.internal.script.KeptMembers.{are_kept_commands}
use Rattle.city_writer.specs.script.Commands.{command_data, command_points}
use Rattle.city_writer.proofs.tree.WrittenItems.{closing, ReadBack}
use Rattle.city_writer.proofs.script.text.write_commands.Given as goal

-- the rest leads to the pool of all, and ends the array
abbrev pub invariant-loop-command : goal.invariant-loop-command
invariant-loop-command l =
    let left = drop l.command-index l.commands in
    (with_points l.initial.pool (flat_map command_points l.commands) ≡ with_points l.pool
    (flat_map command_points left))
    × (l.out.before ≡ l.initial.out.before)
    × ((later : List Point)
    → l.initial.out.tokens ++ closing (command_data (with_points l.pool later)) l.commands
    ≡ l.out.tokens ++ closing (command_data (with_points l.pool later)) left)
    × ((pool : List Point) → length pool < 2 ^ 63 → ReadBack (command_data pool) left
    → ReadBack (command_data pool) l.commands)
    × (are_kept_commands l.commands ≡ are_kept_commands left)
