use Rattle.std.proofs.Common.{◌≡◌, ◌∙◌, ◌+◌, ◌++◌, ap, arith, drop, length, sym, take}
use Rattle.std.proofs.lemmas.List.{drop_at, length-append, take-append-drop, take_at}
use Rattle.city_journal.specs.Sums.{hex_text}
use Rattle.city_journal.proofs.Digits.{sum_digits}
use Rattle.city_journal.proofs.LineParts.{whole_rest}
use Rattle.city_journal.proofs.line.sum_at_start.Goals as goal

pub returns-then-bytes-lt-DIGITS-clause-written : goal.returns-then-bytes-lt-DIGITS-clause-written
returns-then-bytes-lt-DIGITS-clause-written c = λ sum rest is e.
    let all : length c.args.bytes.now ≡ length (hex_text sum) + length rest = ap length e ∙ length-append (hex_text sum) rest in
    absurd (omega (arith, c.if-bytes-lt-DIGITS.true, all, sum_digits sum is.0))

pub returns-in_err-sum-clause-written : goal.returns-in_err-sum-clause-written
returns-in_err-sum-clause-written c = λ sum rest is e.
    absurd (c.in_err-sum.ensures.written sum is
    (ap (take 64) e ∙ take_at (hex_text sum) rest 64 (sum_digits sum is.0)))

pub returns-clause-found : goal.returns-clause-found
returns-clause-found c =
    let bytes = c.args.bytes.now in
    let sum = hex_text c.in_ok-sum.sum.bytes in
    sym (take-append-drop 64 bytes) ∙ ap (λ h. h ++ drop 64 bytes) c.in_ok-sum.ensures.found
    ∙ ap (λ r. sum ++ r) (sym (whole_rest bytes 64))

pub returns-clause-written : goal.returns-clause-written
returns-clause-written c = λ sum rest is e. (
  c.in_ok-sum.ensures.written sum is (ap (take 64) e ∙ take_at (hex_text sum) rest 64 (sum_digits sum is.0)),
  whole_rest c.args.bytes.now 64 ∙ ap (drop 64) e ∙ drop_at (hex_text sum) rest 64 (sum_digits sum is.0),
)
