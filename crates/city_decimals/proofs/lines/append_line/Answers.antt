use Rattle.city_decimals.proofs.Prelude.{rules, ◌≡◌, ◌≤◌, ◌∙◌, ap, length, arith, depth, document_to, Some, None}
use Rattle.city_decimals.proofs.CompactTexts.{read_again, text_printed}
use Rattle.city_decimals.proofs.Depths.{value_shallow}
use Rattle.city_decimals.proofs.lines.append_line.Goals as goal

pub unreachable-requires : goal.unreachable-requires
unreachable-requires c =
    let line = c.args.line.now in
    let j = c.requires.0 in
    let p = c.requires.1 in
    let shallow : depth j ≤ length line = omega (arith, value_shallow j, ap length (p.2 ∙ text_printed j)) in
    let present : document_to (length line) line ≡ Some j =
    ap (document_to (length line)) p.2 ∙ read_again (length line) j p.1 shallow in
    let absent : document_to (length line) line ≡ None = search rules in
    absurd (cc)
