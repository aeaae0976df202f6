use Rattle.std.proofs.Common.{◌++◌, []}
use Rattle.json.specs.Print.{quoted}
use Rattle.city_journal.specs.LineTexts.{version_end}
use Rattle.city_journal.proofs.LineRead.{behind_key, not_empty}
use Rattle.city_journal.proofs.line.key_of.Goals as goal

pub returns-in_err-rest-clause-written : goal.returns-in_err-rest-clause-written
returns-in_err-rest-clause-written c = λ key name v lt e.
    let begun = c.in_ok-behind.ensures.written (quoted key ++ behind_key name v) e in
    let keyed = c.in_ok-key.ensures.written key (behind_key name v) begun in
    let rest = c.in_ok-behind-2.ensures.written (quoted name ++ version_end v) keyed.1 in
    let named = c.in_ok-name.ensures.written name (version_end v) rest in
    absurd (c.in_err-rest.ensures.written [] v lt named.1)

pub returns-then-not-is_empty-clause-written : goal.returns-then-not-is_empty-clause-written
returns-then-not-is_empty-clause-written c = λ key name v lt e.
    let begun = c.in_ok-behind.ensures.written (quoted key ++ behind_key name v) e in
    let keyed = c.in_ok-key.ensures.written key (behind_key name v) begun in
    let rest = c.in_ok-behind-2.ensures.written (quoted name ++ version_end v) keyed.1 in
    let named = c.in_ok-name.ensures.written name (version_end v) rest in
    let parts = c.in_ok-rest.ensures.written [] v lt named.1 in
    absurd (not_empty c.in_ok-rest.rest.now c.is_empty.result parts.0 c.is_empty.ensures c.if-not-is_empty.true)

pub returns-clause-written : goal.returns-clause-written
returns-clause-written c = λ key name v lt e.
    let begun = c.in_ok-behind.ensures.written (quoted key ++ behind_key name v) e in
    let keyed = c.in_ok-key.ensures.written key (behind_key name v) begun in
    let rest = c.in_ok-behind-2.ensures.written (quoted name ++ version_end v) keyed.1 in
    let named = c.in_ok-name.ensures.written name (version_end v) rest in
    let parts = c.in_ok-rest.ensures.written [] v lt named.1 in
    (keyed.0, named.0, parts.1)
