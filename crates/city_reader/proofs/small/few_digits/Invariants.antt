use Rattle.std.proofs.Common.{◌-◌}
use Rattle.city_reader.specs.Numbers.{AreDigits}
use Rattle.city_reader.proofs.small.few_digits.Given as goal

abbrev pub invariant-loop-count : goal.invariant-loop-count
invariant-loop-count l = AreDigits l.text l.count l.n

abbrev pub decreases-loop-count : goal.decreases-loop-count
decreases-loop-count l = 18 - l.count
