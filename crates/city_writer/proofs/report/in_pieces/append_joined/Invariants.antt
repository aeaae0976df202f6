use Rattle.city_writer.proofs.Prelude.{◌≡◌, ◌++◌, into_iter_items, is_some, list_all}
use Rattle.city_writer.specs.internal.Pieces.{joined}
use Rattle.city_writer.proofs.report.in_pieces.append_joined.Given as goal

-- the rest ends the report
abbrev pub invariant-loop-report : goal.invariant-loop-report
invariant-loop-report l =
    (l.fn.bytes.items ++ joined l.fn.reports.items (λ report. report.items) ≡ l.all.items
    ++ joined (into_iter_items l.report-iterator) (λ report. report.items))
    × (list_all is_some l.fn.reports.items ≡ list_all is_some (into_iter_items l.report-iterator))
