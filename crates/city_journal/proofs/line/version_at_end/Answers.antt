use Rattle.std.proofs.Common.{◌++◌, ◌∷◌, decimal}
use Rattle.city_journal.proofs.LineRead.{before_colon, colon_last, version_joined, version_split}
use Rattle.city_journal.proofs.line.version_at_end.Goals as goal

pub returns-in_err-before-clause-written : goal.returns-in_err-before-clause-written
returns-in_err-before-clause-written c = λ front v lt e.
    absurd (c.in_err-before.ensures.written (before_colon front ++ 58 ∷ decimal v) (version_split c.args.bytes.now front v e))

pub returns-in_err-rest-clause-written : goal.returns-in_err-rest-clause-written
returns-in_err-rest-clause-written c = λ front v lt e.
    let whole = c.in_ok-before.ensures.written (before_colon front ++ 58 ∷ decimal v)
    (version_split c.args.bytes.now front v e) in
    absurd (c.in_err-rest.ensures.written (before_colon front) v lt whole)

pub returns-in_err-rest-2-clause-written : goal.returns-in_err-rest-2-clause-written
returns-in_err-rest-2-clause-written c = λ front v lt e.
    let whole = c.in_ok-before.ensures.written (before_colon front ++ 58 ∷ decimal v)
    (version_split c.args.bytes.now front v e) in
    let rest = c.in_ok-rest.ensures.written (before_colon front) v lt whole in
    absurd (c.in_err-rest-2.ensures.written front (colon_last c.in_ok-rest.rest.now front rest.0))

pub returns-clause-found : goal.returns-clause-found
returns-clause-found c =
    version_joined c.args.bytes.now c.in_ok-before.field-0.now c.in_ok-rest.rest.now c.in_ok-rest-2.rest.now
    c.in_ok-rest.version c.in_ok-before.ensures.found c.in_ok-rest.ensures.found c.in_ok-rest-2.ensures.found

pub returns-clause-written : goal.returns-clause-written
returns-clause-written c = λ front v lt e.
    let whole = c.in_ok-before.ensures.written (before_colon front ++ 58 ∷ decimal v)
    (version_split c.args.bytes.now front v e) in
    let rest = c.in_ok-rest.ensures.written (before_colon front) v lt whole in
    (c.in_ok-rest-2.ensures.written front (colon_last c.in_ok-rest.rest.now front rest.0), rest.1)
