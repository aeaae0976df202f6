use Rattle.std.proofs.Common.{length, ◌-◌, ◌≤◌}
use Rattle.city_lines.proofs.members.inside.Given as goal

abbrev pub invariant-loop-from : goal.invariant-loop-from
invariant-loop-from l = l.from ≤ length l.piece

abbrev pub decreases-loop-from : goal.decreases-loop-from
decreases-loop-from l = length l.piece - l.from

abbrev pub invariant-loop-to : goal.invariant-loop-to
invariant-loop-to l = l.to ≤ length l.piece

abbrev pub decreases-loop-to : goal.decreases-loop-to
decreases-loop-to l = l.to - l.from
