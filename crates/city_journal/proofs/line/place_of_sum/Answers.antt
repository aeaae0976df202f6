use Rattle.std.proofs.Common.{◌≡◌, ◌∙◌, ◌++◌, ◌∷◌, ◌+◌, ap, arith, decimal, length}
use Rattle.std.proofs.lemmas.List.{length-append}
use Rattle.city_journal.proofs.LineRead.{before_time, sum_split, time_last}
use Rattle.city_journal.proofs.line.place_of_sum.Goals as goal

pub returns-in_err-rest-clause-written : goal.returns-in_err-rest-clause-written
returns-in_err-rest-clause-written c = λ front digits t v count fits lt e.
    absurd (c.in_err-rest.ensures.written (before_time front digits ++ 58 ∷ decimal t) v lt
    (sum_split c.args.line.now front digits t v e))

pub returns-in_err-rest-2-clause-written : goal.returns-in_err-rest-2-clause-written
returns-in_err-rest-2-clause-written c = λ front digits t v count fits lt e.
    let whole = c.in_ok-rest.ensures.written (before_time front digits ++ 58 ∷ decimal t) v lt
    (sum_split c.args.line.now front digits t v e) in
    absurd (c.in_err-rest-2.ensures.written (before_time front digits) t fits whole.0)

pub returns-in_err-rest-3-clause-written : goal.returns-in_err-rest-3-clause-written
returns-in_err-rest-3-clause-written c = λ front digits t v count fits lt e.
    let whole = c.in_ok-rest.ensures.written (before_time front digits ++ 58 ∷ decimal t) v lt
    (sum_split c.args.line.now front digits t v e) in
    let rest = c.in_ok-rest-2.ensures.written (before_time front digits) t fits whole.0 in
    absurd (c.in_err-rest-3.ensures.written (front ++ digits) (time_last c.in_ok-rest-2.rest.now front digits rest.0))

pub returns-then-rest-lt-DIGITS-clause-written : goal.returns-then-rest-lt-DIGITS-clause-written
returns-then-rest-lt-DIGITS-clause-written c = λ front digits t v count fits lt e.
    let whole = c.in_ok-rest.ensures.written (before_time front digits ++ 58 ∷ decimal t) v lt
    (sum_split c.args.line.now front digits t v e) in
    let rest = c.in_ok-rest-2.ensures.written (before_time front digits) t fits whole.0 in
    let is = c.in_ok-rest-3.ensures.written (front ++ digits) (time_last c.in_ok-rest-2.rest.now front digits rest.0) in
    let all : length c.in_ok-rest-3.rest.now ≡ length front + length digits = ap length is ∙ length-append front digits in
    absurd (omega (arith, c.if-rest-lt-DIGITS.true, all, count))

pub returns-clause-written : goal.returns-clause-written
returns-clause-written c = λ front digits t v count fits lt e.
    let whole = c.in_ok-rest.ensures.written (before_time front digits ++ 58 ∷ decimal t) v lt
    (sum_split c.args.line.now front digits t v e) in
    let rest = c.in_ok-rest-2.ensures.written (before_time front digits) t fits whole.0 in
    let is = c.in_ok-rest-3.ensures.written (front ++ digits) (time_last c.in_ok-rest-2.rest.now front digits rest.0) in
    let all : length c.in_ok-rest-3.rest.now ≡ length front + length digits = ap length is ∙ length-append front digits in
    (omega (arith, all, count), whole.1)
