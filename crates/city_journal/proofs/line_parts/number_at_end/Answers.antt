use Rattle.std.proofs.Common.{◌∙◌, ◌+◌, sym, ap, subst, None, decimal}
use Rattle.std.proofs.lemmas.Fmt.{IsAscii-decimal}
use Rattle.std.proofs.lemmas.Str.{IsUtf8-from_ascii}
use Rattle.std.specs.Str.{IsUtf8}
use Rattle.city_journal.specs.Strings.{is_plain}
use Rattle.city_journal.proofs.LineParts.{before_number, colon_is, colon_written, is_plain-decimal, is_taken}
use Rattle.city_journal.proofs.LineParts.{number_behind, number_found, number_read, whole_rest}
use Rattle.city_journal.proofs.line_parts.number_at_end.Goals as goal

pub returns-in_default-clause-written : goal.returns-in_default-clause-written
returns-in_default-clause-written c = λ front n lt eq.
    let e = colon_written c.args.bytes.now front n lt eq None c.in_default.ensures in cc

pub returns-in_default-from_utf8-clause-written : goal.returns-in_default-from_utf8-clause-written
returns-in_default-from_utf8-clause-written c = λ front n lt eq.
    let bytes = c.args.bytes.now in
    let k = colon_is bytes front n lt eq c.in-Some.colon c.in-Some.ensures in
    let d = whole_rest bytes (c.in-Some.colon + 1) ∙ number_behind bytes front n lt eq c.in-Some.colon k in
    c.in_default-from_utf8.ensures.cases.0 (subst IsUtf8 (sym d) (IsUtf8-from_ascii (decimal n) (IsAscii-decimal n lt)))

pub returns-then-not-is_plain-clause-written : goal.returns-then-not-is_plain-clause-written
returns-then-not-is_plain-clause-written c = λ front n lt eq.
    let bytes = c.args.bytes.now in
    let k = colon_is bytes front n lt eq c.in-Some.colon c.in-Some.ensures in
    let d = c.as_bytes.ensures.value ∙ c.in-Ok.ensures.cases.0 ∙ whole_rest bytes (c.in-Some.colon + 1)
    ∙ number_behind bytes front n lt eq c.in-Some.colon k in
    let p = c.is_plain.ensures ∙ ap is_plain d ∙ is_plain-decimal n lt in
    cc (p, c.if-not-is_plain.true)

pub returns-in-Ok-parse-clause-found : goal.returns-in-Ok-parse-clause-found
returns-in-Ok-parse-clause-found c =
    let bytes = c.args.bytes.now in
    let plain = ap is_plain (sym c.as_bytes.ensures.value) ∙ sym c.is_plain.ensures ∙ c.if-not-is_plain.false in
    number_found c.in-Ok.digits.now plain bytes (c.in-Some.colon + 1) c.in-Ok-parse.number
    (c.in-Ok.ensures.cases.0 ∙ whole_rest bytes (c.in-Some.colon + 1)) c.in-Ok-parse.ensures.value.0

pub returns-in-Ok-parse-clause-written : goal.returns-in-Ok-parse-clause-written
returns-in-Ok-parse-clause-written c = λ front n lt eq.
    let bytes = c.args.bytes.now in
    let k = colon_is bytes front n lt eq c.in-Some.colon c.in-Some.ensures in
    let d = c.in-Ok.ensures.cases.0 ∙ whole_rest bytes (c.in-Some.colon + 1)
    ∙ number_behind bytes front n lt eq c.in-Some.colon k in
    let plain = ap is_plain (sym c.as_bytes.ensures.value) ∙ sym c.is_plain.ensures ∙ c.if-not-is_plain.false in (
      before_number bytes front n lt eq c.in-Some.colon k,
      number_read c.in-Ok.digits.now plain c.in-Ok-parse.number n lt d c.in-Ok-parse.ensures.value.0,
    )

pub returns-in-Err-clause-written : goal.returns-in-Err-clause-written
returns-in-Err-clause-written c = λ front n lt eq.
    let bytes = c.args.bytes.now in
    let k = colon_is bytes front n lt eq c.in-Some.colon c.in-Some.ensures in
    let d = c.in-Ok.ensures.cases.0 ∙ whole_rest bytes (c.in-Some.colon + 1)
    ∙ number_behind bytes front n lt eq c.in-Some.colon k in
    let plain = ap is_plain (sym c.as_bytes.ensures.value) ∙ sym c.is_plain.ensures ∙ c.if-not-is_plain.false in
    is_taken c.in-Ok.digits.now plain n lt d c.in-Err.ensures.value.0
