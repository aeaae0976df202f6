use Rattle.std.proofs.Common.{arith}
use Rattle.city_reader.proofs.Digits.{digit_of, more, below}
use Rattle.city_reader.proofs.whole.value_of_digits.Goals as goal

pub overflow_mul-n : goal.overflow_mul-n
overflow_mul-n c =
    let i = c.loop-byte.invariant in
    let small = below 17 c.loop-byte.byte-index c.args.digits.now i.0 (omega arith) in
    grind (arith, i.1)

pub overflow_add-n : goal.overflow_add-n
overflow_add-n c =
    let i = c.loop-byte.invariant in
    let small = below 17 c.loop-byte.byte-index c.args.digits.now i.0 (omega arith) in
    grind (arith, i.1)

pub loop-byte-preserved : goal.loop-byte-preserved
loop-byte-preserved c =
    let i = c.loop-byte.invariant in
    more c.args.digits.now c.loop-byte.byte-index c.loop-byte.n _ c.loop-byte-test.true i.0 i.1
    (digit_of _ (grind arith) (grind arith))

pub returns-clause-small : goal.returns-clause-small
returns-clause-small c =
    let i = c.loop-byte.invariant in
    let small = below 18 c.loop-byte.byte-index c.args.digits.now i.0 (grind arith) in
    grind (arith, i.1)
