use Rattle.city_decimals.proofs.Prelude.{◌≤◌, ◌<◌, ◌-◌, ℕ, get_or, length}
use Rattle.city_decimals.proofs.numbers.plain_len.Given as goal

abbrev pub invariant-loop-at : goal.invariant-loop-at
invariant-loop-at l =
    (l.at ≤ length l.text) × ((i : ℕ) → i < l.at → (48 ≤ get_or l.text i 0) × (get_or l.text i 0 ≤ 57))

abbrev pub decreases-loop-at : goal.decreases-loop-at
decreases-loop-at l = length l.text - l.at
