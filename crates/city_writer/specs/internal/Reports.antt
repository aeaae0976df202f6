-- Reports of some of the ends.
use Rattle.std.specs.Prelude.{◌≡◌, ℕ, List}
use Rattle.city_model.specs.declared.end.End.{End}
use Rattle.city_writer.specs.report.JsonLines.{AreJsonLines}
use Rattle.city_writer.specs.report.Reports.{report_text}

-- a text is the report of the ends
pub record IsReport (ends : List End) (text : List ℕ) : Type 0 where
  pub text_is : text ≡ report_text ends
  pub lines : AreJsonLines text
