use Rattle.std.proofs.Common.{◌++◌, codes, refl}
use Rattle.json.specs.Print.{quoted}
use Rattle.city_journal.proofs.LineRead.{before_mark, behind_by}
use Rattle.city_journal.proofs.line.commit_before.Goals as goal

pub returns-in_err-rest-clause-written : goal.returns-in_err-rest-clause-written
returns-in_err-rest-clause-written c = λ by key script e.
    absurd (c.in_err-rest.ensures.written (codes "{\"by\":" ++ (quoted by ++ behind_by key script))
    (before_mark c.args.bytes.now by key script e))

pub returns-in_err-behind-clause-written : goal.returns-in_err-behind-clause-written
returns-in_err-behind-clause-written c = λ by key script e.
    let front = c.in_ok-rest.ensures.written (codes "{\"by\":" ++ (quoted by ++ behind_by key script))
    (before_mark c.args.bytes.now by key script e) in
    absurd (c.in_err-behind.ensures.written (quoted by ++ behind_by key script) front)

pub returns-in_err-_by-clause-written : goal.returns-in_err-_by-clause-written
returns-in_err-_by-clause-written c = λ by key script e.
    let front = c.in_ok-rest.ensures.written (codes "{\"by\":" ++ (quoted by ++ behind_by key script))
    (before_mark c.args.bytes.now by key script e) in
    let named = c.in_ok-behind.ensures.written (quoted by ++ behind_by key script) front in
    absurd (c.in_err-_by.ensures.written by (behind_by key script) named)

pub returns-in_err-key-clause-written : goal.returns-in_err-key-clause-written
returns-in_err-key-clause-written c = λ by key script e.
    let front = c.in_ok-rest.ensures.written (codes "{\"by\":" ++ (quoted by ++ behind_by key script))
    (before_mark c.args.bytes.now by key script e) in
    let named = c.in_ok-behind.ensures.written (quoted by ++ behind_by key script) front in
    let rest = c.in_ok-_by.ensures.written by (behind_by key script) named in
    absurd (c.in_err-key.ensures.written key script rest.1)

pub returns-in_err-script-clause-written : goal.returns-in_err-script-clause-written
returns-in_err-script-clause-written c = λ by key script e.
    let front = c.in_ok-rest.ensures.written (codes "{\"by\":" ++ (quoted by ++ behind_by key script))
    (before_mark c.args.bytes.now by key script e) in
    let named = c.in_ok-behind.ensures.written (quoted by ++ behind_by key script) front in
    let rest = c.in_ok-_by.ensures.written by (behind_by key script) named in
    let keyed = c.in_ok-key.ensures.written key script rest.1 in
    absurd (c.in_err-script.ensures.written script keyed.1)

pub returns-clause-written : goal.returns-clause-written
returns-clause-written c = λ by key script e.
    let front = c.in_ok-rest.ensures.written (codes "{\"by\":" ++ (quoted by ++ behind_by key script))
    (before_mark c.args.bytes.now by key script e) in
    let named = c.in_ok-behind.ensures.written (quoted by ++ behind_by key script) front in
    let rest = c.in_ok-_by.ensures.written by (behind_by key script) named in
    let keyed = c.in_ok-key.ensures.written key script rest.1 in
    (keyed.0, c.in_ok-script.ensures.written script keyed.1, refl)
