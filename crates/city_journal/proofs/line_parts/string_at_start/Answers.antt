use Rattle.std.proofs.Common.{◌≡◌, ◌∙◌, ◌+◌, ◌<◌, sym, ap, length, drop, arith}
use Rattle.std.proofs.lemmas.List.{drop_all}
use Rattle.city_journal.specs.Strings.{behind_string}
use Rattle.city_journal.proofs.LineParts.{behind_quoted, escaped_step, nothing_behind, plain_step, quote_ends}
use Rattle.city_journal.proofs.LineParts.{string_split, whole_rest}
use Rattle.city_journal.proofs.line_parts.string_at_start.Goals as goal
use Rattle.city_journal.proofs.line_parts.string_at_start.Goals.{then-is_escaped, else-is_escaped+else-bytes-i-eq34}

pub returns-then-bytes-i-eq34-clause-written : goal.returns-then-bytes-i-eq34-clause-written
returns-then-bytes-i-eq34-clause-written c = λ s rest e.
    let bytes = c.args.bytes.now in
    let l = c.loop-i in
    let ends = quote_ends bytes l.i (omega arith) c.if-bytes-i-eq34.true in
    let all = sym (behind_quoted bytes s rest e) ∙ l.invariant
    ∙ ap (λ b. behind_string b (drop l.i bytes)) c.if-is_escaped.false ∙ ends in
    let d : drop (l.i + 1) bytes ≡ rest = cc in
    (string_split bytes s rest (l.i + 1) e d, whole_rest bytes (l.i + 1) ∙ d)

pub loop-i-preserved : goal.loop-i-preserved
loop-i-preserved c =
    let bytes = c.args.bytes.now in
    let l = c.loop-i in
    let lt : l.i < length bytes = omega arith in
    elim c.if-is_escaped.branch [
      | then-is_escaped w ↦
          l.invariant ∙ escaped_step bytes l.i l.is_escaped c.if-is_escaped.is_escaped lt w.if-is_escaped.true w.is_escaped-is
      | else-is_escaped+else-bytes-i-eq34 w ↦
          l.invariant ∙ plain_step bytes l.i l.is_escaped c.if-is_escaped.is_escaped lt w.if-is_escaped.false
          w.if-bytes-i-eq34.false w.is_escaped-is
    ]

pub returns-clause-written : goal.returns-clause-written
returns-clause-written c = λ s rest e.
    let bytes = c.args.bytes.now in
    let l = c.loop-i in
    let all = sym (behind_quoted bytes s rest e) ∙ l.invariant
    ∙ ap (behind_string l.is_escaped) (drop_all l.i bytes (omega arith)) ∙ nothing_behind l.is_escaped in
    cc
