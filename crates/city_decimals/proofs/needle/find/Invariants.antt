use Rattle.city_decimals.proofs.Prelude.{◌≤◌, ◌-◌, length}
use Rattle.memchr.specs.Find.{Nowhere, OccursAt}
use Rattle.city_decimals.proofs.needle.find.Given as goal

-- no place is passed over
abbrev pub invariant-loop-from : goal.invariant-loop-from
invariant-loop-from l = (l.rare ≤ l.from) × Nowhere (OccursAt l.text l.needle) 0 (l.from - l.rare)

abbrev pub decreases-loop-from : goal.decreases-loop-from
decreases-loop-from l = length l.text - l.from
