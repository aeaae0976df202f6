use Rattle.std.proofs.Common.{◌≡◌, ◌∙◌, ◌++◌, ◌+◌, ◌-◌, ap, arith, drop, length, take}
use Rattle.city_journal.specs.Sums.{sum_text}
use Rattle.city_journal.proofs.LineParts.{whole_rest}
use Rattle.city_journal.proofs.SumFound.{sum_found}
use Rattle.city_journal.proofs.line.has_sum.Goals as goal

pub returns : goal.returns
returns c = λ front behind is place.
    let line = c.args.line.now in
    let at = c.args.at in
    let count : at + 16 - at ≡ 16 = omega arith in
    sum_found line front behind at is place c.as_slice.result.now _ c.eq.result
    (c.as_slice.ensures.value ∙ c.in_ok-push_sum.ensures
    ∙ ap (λ d. d ++ sum_text (take at line) (take (length line - (at + 16)) (drop (at + 16) line))) c.new-digits.ensures.items
    ∙ ap (sum_text (take at line)) (whole_rest line (at + 16)))
    (ap (λ n. take n (drop at line)) count) c.eq.ensures
