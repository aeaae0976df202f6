use Rattle.city_decimals.proofs.Prelude.{◌≡◌, ◌≤◌, ◌-◌, length, take}
use Rattle.city_decimals.proofs.copier.begins_with.Given as goal

abbrev pub invariant-loop-at : goal.invariant-loop-at
invariant-loop-at l = (l.at ≤ length l.bytes) × (take l.at l.text ≡ take l.at l.bytes)

abbrev pub decreases-loop-at : goal.decreases-loop-at
decreases-loop-at l = length l.bytes - l.at
