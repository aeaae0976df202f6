use Rattle.std.proofs.Common.{sym, ap, ◌∙◌, arith, subst, ◌<◌}
use Rattle.std.specs.Char.{is_ascii_digit}
use Rattle.json.specs.Run.{is_no_digit}
use lib.Count.{count_trailing_zeros}
use Rattle.city_reader.proofs.Lanes.{not-not, run_stops, run_within}
use Rattle.city_reader.proofs.scans.few_digits_len.Goals as goal

pub returns-clause-within : goal.returns-clause-within
returns-clause-within c =
    let found = c.no_digits-found in
    subst (λ m. count_trailing_zeros 64 m < 16) (sym found.ensures) (run_within is_no_digit is_ascii_digit
    (λ x. not-not (is_ascii_digit x)) c.args.text.now c.args.from 16 (omega arith) (omega arith)
    (omega (arith, found.ensures)))

pub returns-clause-value : goal.returns-clause-value
returns-clause-value c =
    let found = c.no_digits-found in
    λ some. ap (count_trailing_zeros 64) found.ensures ∙ sym (run_stops is_no_digit is_ascii_digit
    (λ x. not-not (is_ascii_digit x)) c.args.text.now c.args.from 16 (omega arith) (omega arith)
    (omega (arith, found.ensures)))
