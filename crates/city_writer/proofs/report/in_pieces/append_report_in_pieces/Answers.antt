use Rattle.city_writer.proofs.Prelude.{◌∙◌, ◌++◌, ap, sym, subst}
use Rattle.city_writer.specs.report.JsonLines.{AreJsonLines}
use Rattle.city_writer.specs.internal.Reports.{IsReport}
use Rattle.city_writer.proofs.EachPiece.{all_made}
use Rattle.city_writer.proofs.report.JoinedReports.{reports_joined, lines-append}
use Rattle.city_writer.proofs.report.in_pieces.append_report_in_pieces.Goals as goal

pub returns-clause-text : goal.returns-clause-text
returns-clause-text g c =
    let made = c.in_ok-reports.ensures in
    let all = all_made (λ es report. IsReport es report.items) _ _ _ c.in_ok-report.ensures.all made in
    let joined = reports_joined (λ report. report.items) _ c.args.ends.now c.in_ok-reports.reports.items all in
    c.in_ok-report.ensures.text ∙ ap (λ t. c.args.bytes.items ++ t) joined.text_is

pub returns-clause-lines : goal.returns-clause-lines
returns-clause-lines g c before =
    let made = c.in_ok-reports.ensures in
    let all = all_made (λ es report. IsReport es report.items) _ _ _ c.in_ok-report.ensures.all made in
    let joined = reports_joined (λ report. report.items) _ c.args.ends.now c.in_ok-reports.reports.items all in
    subst AreJsonLines (sym c.in_ok-report.ensures.text) (lines-append c.args.bytes.items _ before joined.lines)
