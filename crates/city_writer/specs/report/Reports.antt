-- The report of a run: a line of compact JSON for each end, keys in byte order.
use Rattle.std.specs.Prelude.{ℕ, List, [], ◌∷◌, ◌++◌}
use Rattle.serde_json.specs.Written.{compact_text}
use Rattle.city_model.specs.declared.end.End.{End}
use Rattle.city_writer.specs.report.Ends.{end_data}

-- the line of an end, with its newline
abbrev pub end_line : End → List ℕ
end_line e = compact_text (end_data e) ++ 10 ∷ []

unfoldable pub report_text : List End → List ℕ
report_text [] = []
report_text (e ∷ es) = end_line e ++ report_text es
