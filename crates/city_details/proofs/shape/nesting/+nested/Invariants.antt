use Rattle.std.proofs.Common.{◌*◌, ◌+◌}
use Rattle.city_details.proofs.shape.nesting.+nested.Given as goal

abbrev pub decreases-are_nested : goal.decreases-are_nested
decreases-are_nested l = 2 * l.depth + 1

abbrev pub decreases-is_nested : goal.decreases-is_nested
decreases-is_nested l = 2 * l.depth
