use Rattle.city_decimals.proofs.Prelude.{◌≤◌, ◌<◌, ◌-◌, ℕ, get_or, length, IsPlainByte}
use Rattle.city_decimals.proofs.copier.number_end.Given as goal

abbrev pub invariant-loop-at : goal.invariant-loop-at
invariant-loop-at l = (l.at ≤ length l.text) × ((i : ℕ) → i < l.at → IsPlainByte (get_or l.text i 0))

abbrev pub decreases-loop-at : goal.decreases-loop-at
decreases-loop-at l = length l.text - l.at
