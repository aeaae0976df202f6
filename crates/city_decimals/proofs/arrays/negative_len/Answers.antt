use Rattle.city_decimals.proofs.Prelude.{◌<◌, arith}
use Rattle.city_decimals.proofs.PlainNumbers.{negative_kept}
use Rattle.city_decimals.proofs.arrays.negative_len.Goals as goal

pub returns-clause-kept : goal.returns-clause-kept
returns-clause-kept c =
    let count = c.few_digits_len-count in
    let some : 0 < count.result = omega (arith, c.if-count-eq0.false) in
    λ any. negative_kept c.args.text.now c.args.at count.result (omega arith) c.if-text-at-ne45.false some
    (omega (arith, count.ensures.within)) (count.ensures.value some) c.if-text-at-eq48.false
