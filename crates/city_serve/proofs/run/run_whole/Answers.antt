use Rattle.std.proofs.Common.{rules}
use Rattle.city_serve.proofs.Prelude.{◌∙◌, ◌∷◌, [], ap, append_assoc, drop, subst, sym}
use Rattle.std.proofs.lemmas.List.{drop_at}
use Rattle.city_writer.specs.document.Canonical.{city_text}
use Rattle.city_writer.specs.report.Reports.{report_text}
use Rattle.city_desk.specs.TextRuns.{IsReadFrom}
use Rattle.city_serve.proofs.run.run_whole.Goals as goal

pub returns-clause-ran : goal.returns-clause-ran
returns-clause-ran g c =
    let city = c.in_ok-city.city in
    let list = c.in_ok-city.list in
    let read : IsReadFrom c.args.texts.now.document.bytes.items c.args.texts.now.scripts.bytes.items city list =
    subst (λ d. IsReadFrom d c.args.texts.now.scripts.bytes.items city list) c.as_slice-model.ensures.value
    (subst (λ s. IsReadFrom c.as_slice-model.result.now s city list) c.as_slice-commands.ensures.value
    c.in_ok-city.ensures.read) in
    c.in_ok-output.ensures.ran c.args.texts.now.document.bytes.items c.args.texts.now.scripts.bytes.items read

pub returns-clause-city : goal.returns-clause-city
returns-clause-city g c =
    let output = c.in_ok-output.output in
    ap (drop output.report) (c.in_ok-output.ensures.city ∙ append_assoc (report_text output.ends)
    (city_text c.in_ok-output.city) (10 ∷ []))
    ∙ drop_at (report_text output.ends) _ output.report (sym c.in_ok-output.ensures.report)

pub returns-in_err-output-clause-fault : goal.returns-in_err-output-clause-fault
returns-in_err-output-clause-fault g c =
    let fault =
    c.in_err-output.ensures.fault c.args.texts.now.document.bytes.items c.args.texts.now.scripts.bytes.items in
    let alone = c.in_err-output.ensures.alone in search (fault, alone, rules)
