use Rattle.std.proofs.Common.{inr, ◌≡◌, ◌∙◌, ◌+◌, ◌-◌, None, Some, ap, arith, drop, length, nat_lt, refl, subst, sym, take}
use Rattle.std.proofs.lemmas.List.{drop_all}
use Rattle.memchr.specs.Find.{IsFirstByte, is_byte}
use Rattle.city_journal.specs.declared.fault.JournalFault.TheVariants.{OutOfMemory}
use Rattle.city_journal.specs.Reads.{all_said, reading_so_far}
use Rattle.city_journal.specs.Said.{said_text}
use Rattle.city_journal.proofs.JournalRead.{AreLeft, ends_next, line_is, more_with, next_left, of_error, over_at_end, over_without, some_left}
use Rattle.city_journal.specs.Skipped.{IsSkipped, IsSkippedLine, TellsSkipped}
use Rattle.city_journal.proofs.LineParts.{whole_rest}
use Rattle.city_journal.proofs.Skipped.{skips_by, skips_next, skips_something, skips_with_newline}
use Rattle.city_journal.proofs.read.read_rest.Goals as goal

pub loop-whole-init : goal.loop-whole-init
loop-whole-init c = (
  c.requires,
  λ ss torn next is text. record { ss = ss; next = next; text = text; ends = refl },
  λ h. h,
)

pub loop-whole-preserved : goal.loop-whole-preserved
loop-whole-preserved c =
    let bytes = c.args.bytes.now in
    let at = c.loop-whole.whole in
    let k = c.in-Some.length in
    let byte = subst (λ b. IsFirstByte (is_byte 10) b (Some k)) (whole_rest bytes at) c.in-Some.ensures in (
      ends_next bytes at k byte c.loop-whole-test.true,
      λ ss torn next is text.
          let end = all_said (reading_so_far c.args.reading) ss in
          let r = reading_so_far c.loop-whole.reading in
          let more = more_with r (drop at bytes) torn end k is byte (c.loop-whole.invariant.1 ss torn next is text) in
          let count : at + k - at ≡ k = omega arith in
          let line = ap (λ n. take n (drop at bytes)) count
          ∙ line_is (drop at bytes) (said_text more.s) more.rest k more.next.is_line more.text byte in
          next_left bytes torn end r at k more byte (reading_so_far c.take.new.self)
          (c.in_ok-take.ensures.written more.s more.next line).1,
      λ h.
          let r = reading_so_far c.loop-whole.reading in
          let count : at + k - at ≡ k = omega arith in
          let line = ap (λ n. take n (drop at bytes)) count in
          skips_by r (drop at bytes) k byte (IsSkipped (reading_so_far c.take.new.self) (drop (at + k + 1) bytes))
          (λ one. absurd (c.in_ok-take.ensures.skipped (subst (IsSkippedLine r.version) (sym line) one)))
          (λ s next is later. skips_next r (reading_so_far c.take.new.self) s bytes at k
          (c.in_ok-take.ensures.written s next (line ∙ is)).1 later) (c.loop-whole.invariant.2 h),
    )

pub returns-in_default-clause-read : goal.returns-in_default-clause-read
returns-in_default-clause-read c = λ ss torn next is text.
    let bytes = c.args.bytes.now in
    let at = c.loop-whole.whole in
    let byte = subst (λ b. IsFirstByte (is_byte 10) b None) (whole_rest bytes at) c.in_default.ensures in
    let over = over_without (reading_so_far c.loop-whole.reading) (drop at bytes) torn
    (all_said (reading_so_far c.args.reading) ss) byte (c.loop-whole.invariant.1 ss torn next is text) in
    record {
      read = sym c.read_so_far.ensures.read ∙ over.ends;
      dropped = ap (λ w. drop w bytes) c.read_so_far.ensures.whole ∙ over.text;
      told = c.read_so_far.ensures.dropped ∙ sym (some_left bytes torn at c.loop-whole-test.true over.text);
    }

pub returns-in_err-take-clause-read : goal.returns-in_err-take-clause-read
returns-in_err-take-clause-read c = λ ss torn next is text.
    let bytes = c.args.bytes.now in
    let at = c.loop-whole.whole in
    let k = c.in-Some.length in
    let byte = subst (λ b. IsFirstByte (is_byte 10) b (Some k)) (whole_rest bytes at) c.in-Some.ensures in
    let end = all_said (reading_so_far c.args.reading) ss in
    let more = more_with (reading_so_far c.loop-whole.reading) (drop at bytes) torn end k is byte
    (c.loop-whole.invariant.1 ss torn next is text) in
    let count : at + k - at ≡ k = omega arith in
    let line = ap (λ n. take n (drop at bytes)) count
    ∙ line_is (drop at bytes) (said_text more.s) more.rest k more.next.is_line more.text byte in
    of_error c.in_err-take.field-0.0 _ (λ f. f ≡ OutOfMemory) c.from_residual.result c.from_residual.ensures.1
    (c.in_err-take.ensures.written more.s more.next line)

pub returns-then-end-bytes-clause-read : goal.returns-then-end-bytes-clause-read
returns-then-end-bytes-clause-read c = λ ss torn next is text.
    let bytes = c.args.bytes.now in
    let at = c.loop-whole.whole in
    let k = c.in-Some.length in
    let byte = subst (λ b. IsFirstByte (is_byte 10) b (Some k)) (whole_rest bytes at) c.in-Some.ensures in
    let end = all_said (reading_so_far c.args.reading) ss in
    let more = more_with (reading_so_far c.loop-whole.reading) (drop at bytes) torn end k is byte
    (c.loop-whole.invariant.1 ss torn next is text) in
    let count : at + k - at ≡ k = omega arith in
    let line = ap (λ n. take n (drop at bytes)) count
    ∙ line_is (drop at bytes) (said_text more.s) more.rest k more.next.is_line more.text byte in
    let stands = (c.in_ok-take.ensures.written more.s more.next line).0 in
    absurd (cc (stands, c.in-Damaged.is))

pub returns-in-Damaged-clause-read : goal.returns-in-Damaged-clause-read
returns-in-Damaged-clause-read c = λ ss torn next is text.
    let bytes = c.args.bytes.now in
    let at = c.loop-whole.whole in
    let k = c.in-Some.length in
    let byte = subst (λ b. IsFirstByte (is_byte 10) b (Some k)) (whole_rest bytes at) c.in-Some.ensures in
    let end = all_said (reading_so_far c.args.reading) ss in
    let more = more_with (reading_so_far c.loop-whole.reading) (drop at bytes) torn end k is byte
    (c.loop-whole.invariant.1 ss torn next is text) in
    let count : at + k - at ≡ k = omega arith in
    let line = ap (λ n. take n (drop at bytes)) count
    ∙ line_is (drop at bytes) (said_text more.s) more.rest k more.next.is_line more.text byte in
    let stands = (c.in_ok-take.ensures.written more.s more.next line).0 in
    absurd (cc (stands, c.in-Damaged.is))

pub returns-clause-read : goal.returns-clause-read
returns-clause-read c = λ ss torn next is text.
    let bytes = c.args.bytes.now in
    let at = c.loop-whole.whole in
    let end = all_said (reading_so_far c.args.reading) ss in
    let r = reading_so_far c.loop-whole.reading in
    let none = drop_all at bytes (omega (arith, c.loop-whole-test.false)) in
    let over = over_at_end r torn end (subst (λ b. AreLeft r b torn end) none (c.loop-whole.invariant.1 ss torn next is text)) in
    record {
      read = sym c.read_so_far-2.ensures.read ∙ over.1;
      dropped = ap (λ w. drop w bytes) c.read_so_far-2.ensures.whole ∙ none ∙ sym over.0;
      told = c.read_so_far-2.ensures.dropped ∙ sym (ap (λ t. nat_lt 0 (length t)) over.0);
    }

pub returns-in_default-clause-skipped : goal.returns-in_default-clause-skipped
returns-in_default-clause-skipped c = λ h.
    let at = c.loop-whole.whole in
    let byte = subst (λ b. IsFirstByte (is_byte 10) b None) (whole_rest c.args.bytes.now at) c.in_default.ensures in
    absurd (skips_with_newline (reading_so_far c.loop-whole.reading) (drop at c.args.bytes.now) byte
    (c.loop-whole.invariant.2 h))

pub returns-in_err-take-clause-skipped : goal.returns-in_err-take-clause-skipped
returns-in_err-take-clause-skipped c = λ h.
    let bytes = c.args.bytes.now in
    let at = c.loop-whole.whole in
    let k = c.in-Some.length in
    let byte = subst (λ b. IsFirstByte (is_byte 10) b (Some k)) (whole_rest bytes at) c.in-Some.ensures in
    let r = reading_so_far c.loop-whole.reading in
    let count : at + k - at ≡ k = omega arith in
    let line = ap (λ n. take n (drop at bytes)) count in
    of_error c.in_err-take.field-0.0 _ TellsSkipped c.from_residual.result c.from_residual.ensures.1
    (skips_by r (drop at bytes) k byte (TellsSkipped c.in_err-take.field-0.0)
    (λ one. c.in_err-take.ensures.skipped (subst (IsSkippedLine r.version) (sym line) one))
    (λ s next is later. inr (c.in_err-take.ensures.written s next (line ∙ is))) (c.loop-whole.invariant.2 h))

pub returns-then-end-bytes-clause-skipped : goal.returns-then-end-bytes-clause-skipped
returns-then-end-bytes-clause-skipped c = λ h.
    let bytes = c.args.bytes.now in
    let at = c.loop-whole.whole in
    let k = c.in-Some.length in
    let byte = subst (λ b. IsFirstByte (is_byte 10) b (Some k)) (whole_rest bytes at) c.in-Some.ensures in
    let r = reading_so_far c.loop-whole.reading in
    let count : at + k - at ≡ k = omega arith in
    let line = ap (λ n. take n (drop at bytes)) count in
    absurd (skips_by r (drop at bytes) k byte ⊥
    (λ one. c.in_ok-take.ensures.skipped (subst (IsSkippedLine r.version) (sym line) one))
    (λ s next is later. let stands = (c.in_ok-take.ensures.written s next (line ∙ is)).0 in absurd (cc (stands, c.in-Damaged.is)))
    (c.loop-whole.invariant.2 h))

pub returns-in-Damaged-clause-skipped : goal.returns-in-Damaged-clause-skipped
returns-in-Damaged-clause-skipped c = λ h.
    let bytes = c.args.bytes.now in
    let at = c.loop-whole.whole in
    let k = c.in-Some.length in
    let byte = subst (λ b. IsFirstByte (is_byte 10) b (Some k)) (whole_rest bytes at) c.in-Some.ensures in
    let r = reading_so_far c.loop-whole.reading in
    let count : at + k - at ≡ k = omega arith in
    let line = ap (λ n. take n (drop at bytes)) count in
    absurd (skips_by r (drop at bytes) k byte ⊥
    (λ one. c.in_ok-take.ensures.skipped (subst (IsSkippedLine r.version) (sym line) one))
    (λ s next is later. let stands = (c.in_ok-take.ensures.written s next (line ∙ is)).0 in absurd (cc (stands, c.in-Damaged.is)))
    (c.loop-whole.invariant.2 h))

pub returns-clause-skipped : goal.returns-clause-skipped
returns-clause-skipped c = λ h.
    let at = c.loop-whole.whole in
    let r = reading_so_far c.loop-whole.reading in
    let none = drop_all at c.args.bytes.now (omega (arith, c.loop-whole-test.false)) in
    absurd (skips_something r (subst (IsSkipped r) none (c.loop-whole.invariant.2 h)))
