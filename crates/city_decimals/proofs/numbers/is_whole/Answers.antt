use Rattle.city_decimals.proofs.Prelude.{rules, arith, common_steps}
use Rattle.serde_json.specs.Read.{number_of}
use Rattle.city_decimals.proofs.PlainNumbers.{plain_is_whole}
use Rattle.city_decimals.proofs.numbers.is_whole.Goals as goal

pub returns-then-has_minus : goal.returns-then-has_minus
unfolding number_of
returns-then-has_minus c = grind (arith, common_steps)

pub returns-else-has_minus : goal.returns-else-has_minus
unfolding number_of
returns-else-has_minus c = search rules

pub returns-then-is_plain : goal.returns-then-is_plain
returns-then-is_plain c = search (rules, plain_is_whole)
