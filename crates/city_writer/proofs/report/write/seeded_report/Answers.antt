use Rattle.city_writer.proofs.report.JoinedReports.{no_lines}
use Rattle.city_writer.proofs.report.write.seeded_report.Goals as goal

pub returns-clause-lines : goal.returns-clause-lines
returns-clause-lines c = c.in_ok-report.ensures.lines (rw c.new.ensures.items no_lines)
