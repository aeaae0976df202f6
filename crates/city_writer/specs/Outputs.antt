-- The output of a run: the report of its ends, then the model after them.
use Rattle.std.specs.Prelude.{◌≡◌, ◌++◌, ◌∷◌, [], ℕ, List, take, drop}
use Rattle.city_model.specs.declared.end.End.{End}
use Rattle.city_model.specs.CityMap.{Objects, CityValue, object_at}
use Rattle.city_model.specs.Runs.{Scripted, model_after}
use Rattle.city_writer.specs.document.Canonical.{city_text}
use Rattle.city_writer.specs.report.JsonLines.{AreJsonLines}
use Rattle.city_writer.specs.report.Reports.{report_text}

-- the report of the ends, the text of the model after them, a newline
pub record IsOutput (city : CityValue) (scripts : List Scripted) (ends : List End)
    (bytes : List ℕ) : Type 0 where
  pub model : Objects
  pub left : object_at model ≡ model_after scripts (object_at city.1) ends
  pub text : bytes ≡ report_text ends ++ city_text (city.0, model) ++ 10 ∷ []

-- the lines of the report and the line of the model are JSON; the report has so many bytes
pub record IsJsonOutput (report : ℕ) (bytes : List ℕ) : Type 0 where
  pub ends : AreJsonLines (take report bytes)
  pub model : AreJsonLines (drop report bytes)
