use Rattle.std.proofs.Common.{◌≡◌, ◌∙◌, ◌+◌, ◌++◌, MatchResult, drop, map, subst, sym}
use Rattle.city_journal.specs.LineTexts.{base_text}
use Rattle.city_journal.specs.Lines.{lines_text}
use Rattle.city_journal.specs.Reads.{AreNext, IsReadAs, all_said, begun}
use Rattle.city_journal.specs.Said.{said_text}
use Rattle.city_journal.specs.Skipped.{IsSkipped}
use Rattle.city_journal.specs.declared.fault.JournalFault.TheVariants.{OutOfMemory}
use Rattle.city_journal.proofs.JournalRead.{first_line, has_newline, line_is, other_bool, rest_is, same_bool}
use Rattle.city_journal.proofs.read.read_whole.Goals as goal

pub returns-in_default-clause-read : goal.returns-in_default-clause-read
returns-in_default-clause-read c = λ sum v ss torn is.
    let base = base_text sum c.args.decimals v in
    let rest = lines_text (map said_text ss) ++ torn in
    absurd (has_newline base rest is.first
    (rw (first_line c.args.bytes.now base torn (map said_text ss) is.text) at c.in_default.ensures))

pub returns-in_default-clause-other_numbers : goal.returns-in_default-clause-other_numbers
returns-in_default-clause-other_numbers c = λ sum d v rest is lt line differs e.
    absurd (has_newline (base_text sum d v) rest line (rw e at c.in_default.ensures))

pub returns-in_default-2-clause-read : goal.returns-in_default-2-clause-read
returns-in_default-2-clause-read c = λ sum v ss torn is.
    let bytes = c.args.bytes.now in
    let base = base_text sum c.args.decimals v in
    let e = first_line bytes base torn (map said_text ss) is.text in
    let line = line_is bytes base (lines_text (map said_text ss) ++ torn) c.in-Some.end is.first e c.in-Some.ensures in
    absurd (rw c.in_default-2.is at (c.in_ok-reading.ensures.written sum c.args.decimals v is.is_sum is.fits line))

pub returns-in_default-2-clause-other_numbers : goal.returns-in_default-2-clause-other_numbers
returns-in_default-2-clause-other_numbers c = λ sum d v rest is lt one differs e.
    let line = line_is c.args.bytes.now (base_text sum d v) rest c.in-Some.end one e c.in-Some.ensures in
    absurd (rw c.in_default-2.is at (c.in_ok-reading.ensures.written sum d v is lt line))

pub returns-then-reading-decimals-clause-read : goal.returns-then-reading-decimals-clause-read
returns-then-reading-decimals-clause-read c = λ sum v ss torn is.
    let bytes = c.args.bytes.now in
    let base = base_text sum c.args.decimals v in
    let e = first_line bytes base torn (map said_text ss) is.text in
    let line = line_is bytes base (lines_text (map said_text ss) ++ torn) c.in-Some.end is.first e c.in-Some.ensures in
    let known = rw c.in-Some-2.is at (c.in_ok-reading.ensures.written sum c.args.decimals v is.is_sum is.fits line) in
    absurd (other_bool c.in-Some-2.reading.decimals c.args.decimals c.if-reading-decimals.true known.0)

pub returns-clause-read : goal.returns-clause-read
returns-clause-read c = λ sum v ss torn is.
    let bytes = c.args.bytes.now in
    let base = base_text sum c.args.decimals v in
    let rest = lines_text (map said_text ss) ++ torn in
    let e = first_line bytes base torn (map said_text ss) is.text in
    let line = line_is bytes base rest c.in-Some.end is.first e c.in-Some.ensures in
    let known = rw c.in-Some-2.is at (c.in_ok-reading.ensures.written sum c.args.decimals v is.is_sum is.fits line) in
    subst (λ r. MatchResult c.read_rest.result (IsReadAs (all_said r ss) torn bytes) (λ f. f ≡ OutOfMemory)) known.1
    (c.read_rest.ensures.read ss torn (subst (λ r. AreNext r ss) (sym known.1) is.next) is.part
    (rest_is bytes base rest c.in-Some.end is.first e c.in-Some.ensures))

pub returns-clause-other_numbers : goal.returns-clause-other_numbers
returns-clause-other_numbers c = λ sum d v rest is lt one differs e.
    let line = line_is c.args.bytes.now (base_text sum d v) rest c.in-Some.end one e c.in-Some.ensures in
    let known = rw c.in-Some-2.is at (c.in_ok-reading.ensures.written sum d v is lt line) in
    absurd (differs (sym known.0 ∙ same_bool c.in-Some-2.reading.decimals c.args.decimals c.if-reading-decimals.false))

pub returns-in_default-clause-skipped : goal.returns-in_default-clause-skipped
returns-in_default-clause-skipped c = λ sum v rest is lt one e h.
    absurd (has_newline (base_text sum c.args.decimals v) rest one (rw e at c.in_default.ensures))

pub returns-in_default-2-clause-skipped : goal.returns-in_default-2-clause-skipped
returns-in_default-2-clause-skipped c = λ sum v rest is lt one e h.
    let d = c.args.decimals in
    let line = line_is c.args.bytes.now (base_text sum d v) rest c.in-Some.end one e c.in-Some.ensures in
    absurd (rw c.in_default-2.is at (c.in_ok-reading.ensures.written sum d v is lt line))

pub returns-then-reading-decimals-clause-skipped : goal.returns-then-reading-decimals-clause-skipped
returns-then-reading-decimals-clause-skipped c = λ sum v rest is lt one e h.
    let d = c.args.decimals in
    let line = line_is c.args.bytes.now (base_text sum d v) rest c.in-Some.end one e c.in-Some.ensures in
    let known = rw c.in-Some-2.is at (c.in_ok-reading.ensures.written sum d v is lt line) in
    absurd (other_bool c.in-Some-2.reading.decimals d c.if-reading-decimals.true known.0)

pub returns-clause-skipped : goal.returns-clause-skipped
returns-clause-skipped c = λ sum v rest is lt one e h.
    let d = c.args.decimals in
    let bytes = c.args.bytes.now in
    let base = base_text sum d v in
    let line = line_is bytes base rest c.in-Some.end one e c.in-Some.ensures in
    let known = rw c.in-Some-2.is at (c.in_ok-reading.ensures.written sum d v is lt line) in
    c.read_rest.ensures.skipped (subst (λ r. IsSkipped r (drop (c.in-Some.end + 1) bytes)) (sym known.1)
    (subst (IsSkipped (begun sum v)) (sym (rest_is bytes base rest c.in-Some.end one e c.in-Some.ensures)) h))
