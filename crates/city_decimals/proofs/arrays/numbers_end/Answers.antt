use Rattle.city_decimals.proofs.Prelude.{◌+◌, refl, arith, take, drop}
use Rattle.city_decimals.proofs.PassedItems.{number_passes, passed_on}
use Rattle.city_decimals.proofs.arrays.numbers_end.Goals as goal

pub returns-then-text-end-ne44-clause-bounds : goal.returns-then-text-end-ne44-clause-bounds
returns-then-text-end-ne44-clause-bounds c =
    let l = c.loop-at in
    let low = l.invariant.1 in
    let high = c.short_len-len.ensures.within in
    (omega (arith, low), omega (arith, high))

pub returns-then-text-end-ne44-clause-passed : goal.returns-then-text-end-ne44-clause-passed
returns-then-text-end-ne44-clause-passed c =
    let l = c.loop-at in
    let len = c.short_len-len in
    let text = c.args.text.now in
    λ any. l.invariant.5 (l.at + len.result) (number_passes text (take len.result (drop l.at text)) l.at len.result
    (len.ensures.kept (omega (arith, c.if-len-eq0.false))) refl)

pub loop-at-preserved : goal.loop-at-preserved
loop-at-preserved c =
    let l = c.loop-at in
    let len = c.short_len-len in
    let text = c.args.text.now in
    let low = l.invariant.1 in
    let high = len.ensures.within in
    let here = number_passes text (take len.result (drop l.at text)) l.at len.result
    (len.ensures.kept (omega (arith, c.if-len-eq0.false))) refl in
    let all = l.invariant.5 (l.at + len.result) here in (
      omega (arith, low),
      omega (arith, low),
      omega (arith, high),
      omega (arith, high),
      λ any. all,
      λ to more. passed_on text c.args.from (l.at + len.result) to (omega (arith, high))
          c.if-text-end-ne44.false all more,
    )
