use Rattle.city_decimals.proofs.Prelude.{◌-◌, ◌<◌, ◌≤◌, ℕ, length}
use Rattle.city_decimals.specs.internal.Passed.{IsPassed}
use Rattle.city_decimals.proofs.arrays.numbers_end.Given as goal

abbrev pub invariant-loop-at : goal.invariant-loop-at
invariant-loop-at l =
    (l.from ≤ l.end) × (l.from ≤ l.at) × (l.end ≤ length l.text) × (l.at ≤ length l.text)
    × (l.from < l.end → IsPassed l.text l.from l.end)
    × ((to : ℕ) → IsPassed l.text l.at to → IsPassed l.text l.from to)

abbrev pub decreases-loop-at : goal.decreases-loop-at
decreases-loop-at l = length l.text - l.at
