use Rattle.city_decimals.proofs.Prelude.{◌-◌, ◌≤◌, ◌++◌, List, ℕ, Bool, true, length, drop, comma_if}
use Rattle.city_decimals.specs.internal.Passed.{GoesOn, ArePassed}
use Rattle.city_decimals.proofs.arrays.whole_items_len.Given as goal

abbrev pub invariant-ends : goal.invariant-ends
invariant-ends l =
    (l.at ≤ length l.text) × (l.end ≤ l.at) × (l.level ≤ l.depth) × ((end : List ℕ)
    → GoesOn l.level true l.depth (drop l.at l.text) end → GoesOn 0 l.later l.depth l.text end)

abbrev pub decreases-ends : goal.decreases-ends
decreases-ends l = l.level

abbrev pub invariant-items : goal.invariant-items
invariant-items l =
    ArePassed l.later l.depth l.text l.done × (l.at ≤ length l.text) × (l.level ≤ l.depth) × ((later : Bool)
    × ((end : List ℕ) → GoesOn l.level later l.depth (comma_if later ++ drop l.at l.text) end
    → GoesOn 0 l.later l.depth l.text end))

abbrev pub decreases-items : goal.decreases-items
decreases-items l = length l.text - l.at
