use Rattle.std.proofs.Common.{◌++◌}
use Rattle.city_journal.specs.LineTexts.{bool_text, version_end}
use Rattle.city_journal.specs.Sums.{hex_text}
use Rattle.city_journal.proofs.LineRead.{behind_base}
use Rattle.city_journal.proofs.line.base_of.Goals as goal

pub returns-in_err-rest-clause-written : goal.returns-in_err-rest-clause-written
returns-in_err-rest-clause-written c = λ sum d v is lt e.
    let begun = c.in_ok-behind.ensures.written (hex_text sum ++ behind_base d v) e in
    let summed = c.in_ok-sum.ensures.written sum (behind_base d v) is begun in
    absurd (c.in_err-rest.ensures.written (bool_text d ++ version_end v) summed.1)

pub returns-in_err-rest-2-clause-written : goal.returns-in_err-rest-2-clause-written
returns-in_err-rest-2-clause-written c = λ sum d v is lt e.
    let begun = c.in_ok-behind.ensures.written (hex_text sum ++ behind_base d v) e in
    let summed = c.in_ok-sum.ensures.written sum (behind_base d v) is begun in
    let rest = c.in_ok-rest.ensures.written (bool_text d ++ version_end v) summed.1 in
    absurd (c.in_err-rest-2.ensures.written (bool_text d) v lt rest)

pub returns-in_err-decimals-clause-written : goal.returns-in_err-decimals-clause-written
returns-in_err-decimals-clause-written c = λ sum d v is lt e.
    let begun = c.in_ok-behind.ensures.written (hex_text sum ++ behind_base d v) e in
    let summed = c.in_ok-sum.ensures.written sum (behind_base d v) is begun in
    let rest = c.in_ok-rest.ensures.written (bool_text d ++ version_end v) summed.1 in
    let parts = c.in_ok-rest-2.ensures.written (bool_text d) v lt rest in
    absurd (c.in_err-decimals.ensures.written d parts.0)

pub returns-clause-written : goal.returns-clause-written
returns-clause-written c = λ sum d v is lt e.
    let begun = c.in_ok-behind.ensures.written (hex_text sum ++ behind_base d v) e in
    let summed = c.in_ok-sum.ensures.written sum (behind_base d v) is begun in
    let rest = c.in_ok-rest.ensures.written (bool_text d ++ version_end v) summed.1 in
    let parts = c.in_ok-rest-2.ensures.written (bool_text d) v lt rest in
    (summed.0, c.in_ok-decimals.ensures.written d parts.0, parts.1)
