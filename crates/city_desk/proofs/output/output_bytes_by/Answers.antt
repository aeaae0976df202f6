use Rattle.city_desk.proofs.Prelude.{subst, city_text, report_text}
use Rattle.std.proofs.Common.{rules}
use Rattle.city_writer.specs.report.JsonLines.{AreJsonLines}
use Rattle.city_desk.proofs.JsonOutputs.{json_output, no_lines}
use Rattle.city_desk.proofs.output.output_bytes_by.Goals as goal

pub returns-clause-lines : goal.returns-clause-lines
returns-clause-lines g c =
    let made = c.in_ok-report.ensures in
    let text = rw c.emptied-empty.ensures at made.text in
    let lines = subst AreJsonLines text (made.lines (rw c.emptied-empty.ensures no_lines)) in
    json_output (report_text c.args.ends.now) (city_text c.args.city.now) _ _ (search rules) (search rules) lines
    c.in_ok-bytes.ensures.json
