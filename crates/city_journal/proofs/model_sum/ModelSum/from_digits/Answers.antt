use Rattle.std.proofs.Common.{◌≡◌, ◌∙◌, ◌*◌, ◌+◌, ◌∷◌, [], ap, arith, get_or, length, sym, take_all}
use Rattle.city_journal.specs.Sums.{hex_text}
use Rattle.city_journal.proofs.Digits.{byte_at, sum_digits, text_same}
use Rattle.city_journal.proofs.model_sum.ModelSum.from_digits.Goals as goal

pub returns-then-digits-ne-DIGITS-clause-written : goal.returns-then-digits-ne-DIGITS-clause-written
returns-then-digits-ne-DIGITS-clause-written c = λ sum is e.
    absurd (c.if-digits-ne-DIGITS.true (ap length e ∙ sum_digits sum is.0))

pub returns-in_err-bytes-clause-written : goal.returns-in_err-bytes-clause-written
returns-in_err-bytes-clause-written c = λ sum is e.
    let i = c.loop-i.i in
    absurd (c.in_err-bytes.ensures.other (get_or sum i 0) (is.1 i)
    (byte_at sum i (omega (arith, is.0, c.loop-i-test.true))
    ∙ ap (λ t. get_or t (2 * i) 0 ∷ get_or t (2 * i + 1) 0 ∷ []) (sym e)))

pub returns-clause-written : goal.returns-clause-written
returns-clause-written c = λ sum is e.
    let i = c.loop-i.i in
    let digits = c.args.digits.now in
    let same : digits ≡ hex_text c.loop-i.bytes = sym (take_all (2 * i) digits (omega arith)) ∙ c.loop-i.invariant.1
    ∙ ap hex_text (take_all i c.loop-i.bytes (omega arith)) in
    text_same c.loop-i.bytes sum (sym same ∙ e)
