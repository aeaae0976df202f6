use Rattle.std.proofs.Common.{sym, ◌∙◌, arith}
use Rattle.city_reader.proofs.Digits.{digits_scanned}
use Rattle.city_reader.proofs.whole.few_digits.Goals as goal

pub returns-clause-integer : goal.returns-clause-integer
returns-clause-integer c = (digits_scanned c.args.bytes.now c.in_ok-n.ensures.digits (grind arith)).0

pub returns-clause-value : goal.returns-clause-value
returns-clause-value c =
    (digits_scanned c.args.bytes.now c.in_ok-n.ensures.digits (grind arith)).1 ∙ sym c.in_ok-n.ensures.value
