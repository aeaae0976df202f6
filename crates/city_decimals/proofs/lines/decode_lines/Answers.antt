use Rattle.city_decimals.proofs.Prelude.{◌≡◌, ◌++◌, ◌∙◌, [], ℕ, List, sym, ap, subst, take, drop, length, rules}
use Rattle.city_decimals.proofs.Prelude.{AreDecodedLines}
use Rattle.city_decimals.specs.Lines.{HasPrintedLines}
use Rattle.city_decimals.specs.internal.Sections.{AreDecodedBehind}
use Rattle.city_decimals.proofs.PrintedLines.{output_decoded, model_lines}
use Rattle.city_decimals.proofs.lines.decode_lines.Goals as goal

-- behind nothing stand the decoded lines alone
alone : (before text out : List ℕ) → before ≡ [] → AreDecodedBehind before text out → AreDecodedLines text out
alone before text out none (more, is, decoded) =
    subst (AreDecodedLines text) (sym (is ∙ ap (λ b. b ++ more) none)) decoded

pub append_decoded-requires-2 : goal.append_decoded-requires-2
append_decoded-requires-2 c =
    subst HasPrintedLines (sym (c.split_at.ensures.back ∙ ap (drop c.args.report) c.as_slice-2.ensures.value))
    (model_lines c.args.is_framed (drop c.args.report c.args.output.items) c.requires.model)

pub returns : goal.returns
returns c =
    let text = c.args.output.items in
    let n = c.args.report in
    let lines = c.in_ok-out-2.out.items in
    let front = c.split_at.ensures.front ∙ ap (take n) c.as_slice-2.ensures.value in
    let back = c.split_at.ensures.back ∙ ap (drop n) c.as_slice-2.ensures.value in
    let behind = c.in_ok-out-3.ensures in
    let len : c.len-decoded.result ≡ length lines = search rules in
    output_decoded text c.in_ok-out-3.out.items lines behind.0 n c.len-decoded.result behind.1 len
    (subst (λ t. AreDecodedLines t lines) front (alone _ _ _ c.in_ok-out.ensures.items c.in_ok-out-2.ensures))
    (subst (λ t. AreDecodedLines t behind.0) back behind.2)
