use Rattle.std.proofs.Common.{◌<◌, length, arith}
use Rattle.city_reader.proofs.Digits.{digit_of, more, below}
use Rattle.city_reader.proofs.small.few_digits.Goals as goal

pub overflow_mul-n : goal.overflow_mul-n
overflow_mul-n c =
    let i = c.loop-count.invariant in
    let small = below 17 c.loop-count.count c.args.text.now i.2 (omega arith) in
    grind (arith, i.3)

pub overflow_add-n : goal.overflow_add-n
overflow_add-n c =
    let i = c.loop-count.invariant in
    let small = below 17 c.loop-count.count c.args.text.now i.2 (omega arith) in
    grind (arith, i.3)

pub loop-count-preserved : goal.loop-count-preserved
loop-count-preserved c =
    let i = c.loop-count.invariant in
    let within : c.loop-count.count < length c.args.text.now = omega arith in
    let next = more c.args.text.now c.loop-count.count c.loop-count.n _ within i.2 i.3
    (digit_of _ (grind arith) (grind arith)) in
    (omega arith, omega arith, next.0, next.1)
