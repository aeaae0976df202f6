use Rattle.city_details.proofs.Prelude.{◌≤◌, ◌+◌, length}
use Rattle.std.proofs.Common.{◌*◌}
use Rattle.city_details.proofs.text.numeral.+numeral.Given as goal

abbrev pub decreases-in_array : goal.decreases-in_array
decreases-in_array l = 2 * length l.steps.now

abbrev pub decreases-in_object : goal.decreases-in_object
decreases-in_object l = 2 * length l.steps.now

abbrev pub decreases-in_value : goal.decreases-in_value
decreases-in_value l = 2 * length l.steps.now + 1

abbrev pub invariant-in_array-items : goal.invariant-in_array-items
invariant-in_array-items l = length l.reader ≤ length l.initial.reader

abbrev pub decreases-in_array-items : goal.decreases-in_array-items
decreases-in_array-items l = length l.reader

abbrev pub invariant-in_object-members : goal.invariant-in_object-members
invariant-in_object-members l = length l.reader ≤ length l.initial.reader

abbrev pub decreases-in_object-members : goal.decreases-in_object-members
decreases-in_object-members l = length l.reader
