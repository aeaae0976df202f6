use Rattle.city_decimals.proofs.Prelude.{arith}
use Rattle.city_decimals.proofs.PlainNumbers.{digits_kept}
use Rattle.city_decimals.proofs.arrays.short_len.Goals.{else-text-at-eq48-via-then-text-at-eq48+else-count-gt1}
use Rattle.city_decimals.proofs.arrays.short_len.Goals.{else-text-at-eq48-via-else-text-at-eq48}
use Rattle.city_decimals.proofs.arrays.short_len.Goals as goal

pub returns-clause-kept : goal.returns-clause-kept
returns-clause-kept c =
    let count = c.few_digits_len-count in
    λ some. digits_kept c.args.text.now c.args.at count.result some (omega (arith, count.ensures.within))
    (count.ensures.value some) (elim c.else-text-at-eq48.branch [
      | else-text-at-eq48-via-then-text-at-eq48+else-count-gt1
          w ↦ λ e. omega (arith, w.if-count-gt1.false)
      | else-text-at-eq48-via-else-text-at-eq48 w
          ↦ λ e. absurd (w.if-text-at-eq48.false e)
    ])
