use Rattle.city_serve.proofs.Prelude.{◌++◌, subst, take, drop, AreDecodedLines}
use Rattle.std.proofs.Common.{rules}
use Rattle.std.proofs.lemmas.List.{take-append-drop}
use Rattle.city_decimals.proofs.OneLine.{lines_joined}
use Rattle.city_serve.proofs.FramedCities.{framed_tree}
use Rattle.city_serve.proofs.JsonLines.{printed_lines, model_line}
use Rattle.city_serve.proofs.Given.{decimals_run}
use Rattle.city_serve.proofs.Reported.{report_ends}
use Rattle.city_serve.proofs.decimals.run_decimals.Goals as goal

pub decode_lines-requires-clause-lines : goal.decode_lines-requires-clause-lines
decode_lines-requires-clause-lines g c = printed_lines _ c.in_ok-output.ensures.lines.ends

pub decode_lines-requires-clause-model : goal.decode_lines-requires-clause-model
decode_lines-requires-clause-model g c =
    let city = c.in_ok-output.city in
    model_line c.has_frame.result city _ c.in_ok-output.ensures.city c.in_ok-output.ensures.lines.model
    c.in_ok-output.ensures.canonical.tokens_are (λ framed. framed_tree city (search rules))

pub returns-clause-ran : goal.returns-clause-ran
returns-clause-ran g c =
    let output = c.in_ok-output.output in
    let text = output.bytes.items in
    let n = output.report in
    let bytes = c.in_ok-bytes.bytes.items in
    let end = c.in_ok-bytes.report in
    let decoded = c.in_ok-bytes.ensures in
    let joined = lines_joined (take n text) (drop n text) (take end bytes) (drop end bytes)
    (report_ends output.ends (take n text) c.in_ok-output.ensures.cut.1) decoded.lines decoded.model in
    let whole = subst (λ t. AreDecodedLines t (take end bytes ++ drop end bytes)) (take-append-drop n text) joined in
    decimals_run c.args.texts.now.document.bytes.items c.args.texts.now.scripts.bytes.items
    c.encode_text.new.text.bytes.items c.encode_text-2.new.text.bytes.items
    c.in_ok-encode_text.ensures.given c.in_ok-encode_text-2.ensures.given output.ends text bytes
    c.in_ok-output.ensures.ran (subst (AreDecodedLines text) (take-append-drop end bytes) whole)
