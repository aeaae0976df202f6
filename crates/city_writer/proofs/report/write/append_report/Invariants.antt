use Rattle.city_writer.proofs.Prelude.{◌≡◌, ◌++◌, drop}
use Rattle.city_writer.specs.report.JsonLines.{AreJsonLines}
use Rattle.city_writer.specs.report.Reports.{report_text}
use Rattle.city_writer.proofs.report.write.append_report.Given as goal

abbrev pub invariant-loop-end : goal.invariant-loop-end
invariant-loop-end l =
    (l.fn.bytes.items ++ report_text l.ends ≡ l.report.items ++ report_text (drop l.end-index l.ends))
    × (AreJsonLines l.fn.bytes.items → AreJsonLines l.report.items)
