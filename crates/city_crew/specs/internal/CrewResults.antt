-- What a run by workers leaves, with their turns interleaved in any way.
use Rattle.std.specs.Prelude.{◌≡◌, ◌<◌, ℕ, List, length, true}
use Rattle.city_model.specs.declared.end.End.{End}
use Rattle.city_model.specs.CityMap.{CityValue, object_at}
use Rattle.city_model.specs.Runs.{Scripted, has_end, model_after}
use Rattle.city_desk.specs.TextRuns.{AreEndsOf}

-- each script has an end
abbrev pub HaveEnded : List Scripted → List End → Type 0
HaveEnded scripts ends = (n : ℕ) → n < length scripts → has_end n ends ≡ true

-- the scripts, run on the city, have these ends and leave this city
pub record IsResult (city : CityValue) (list : List Scripted) (left : CityValue) (ends : List End) : Type 0 where
  pub ran : AreEndsOf city list ends
  pub frame : left.0 ≡ city.0
  pub model : object_at left.1 ≡ model_after list (object_at city.1) ends
