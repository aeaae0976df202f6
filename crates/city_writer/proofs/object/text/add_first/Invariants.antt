use Rattle.city_writer.proofs.Prelude.{◌≡◌, with_points}
use Rattle.std.proofs.Common.{take}
use Rattle.city_writer.specs.internal.object.InTurn.{entry_points}
use Rattle.city_writer.proofs.object.text.add_first.Given as goal

-- the rest leads to the pool of all
abbrev pub invariant-objects : goal.invariant-objects
invariant-objects l =
    with_points l.initial.pool (entry_points (take l.initial.count l.initial.left)) ≡ with_points l.pool
    (entry_points (take l.count l.left))

abbrev pub decreases-objects : goal.decreases-objects
decreases-objects l = l.count
