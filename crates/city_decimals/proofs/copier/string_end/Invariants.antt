use Rattle.city_decimals.proofs.Prelude.{◌≡◌, ◌≤◌, ◌-◌, ℕ, List, length, take, escape}
use Rattle.city_decimals.proofs.copier.string_end.Given as goal

abbrev pub invariant-loop-at : goal.invariant-loop-at
invariant-loop-at l = (l.at ≤ length l.text) × ((s : List ℕ) × (take l.at l.text ≡ escape s))

abbrev pub decreases-loop-at : goal.decreases-loop-at
decreases-loop-at l = length l.text - l.at
