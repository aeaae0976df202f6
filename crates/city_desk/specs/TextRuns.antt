-- The scripts of a text, run one at a time on the city of a document, and the output.
use Rattle.std.specs.Prelude.{◌≡◌, ℕ, List, length, take}
use Rattle.city_model.specs.declared.end.End.{End}
use Rattle.city_model.specs.CityMap.{CityValue, object_at}
use Rattle.city_model.specs.Relations.{IsLawful}
use Rattle.city_model.specs.Runs.{Scripted, IsSerialHistory, model_after}
use Rattle.city_tokens.specs.document.Cities.{IsAdmitted}
use Rattle.city_tokens.specs.script.Scripts.{IsReadAs}
use Rattle.city_writer.specs.Outputs.{IsOutput}

-- the document stands for the city, a lawful one, and the text for the scripts
pub record IsReadFrom (document scripts : List ℕ) (city : CityValue) (list : List Scripted) : Type 0 where
  pub admitted : IsAdmitted document city
  pub read_as : IsReadAs scripts list

-- the ends are those of the scripts run one at a time on the city, each once, in the order of the ends; the model is
-- lawful after each of them
pub record AreEndsOf (city : CityValue) (list : List Scripted) (ends : List End) : Type 0 where
  pub each_once : length ends ≡ length list
  pub fits : IsSerialHistory list (object_at city.1) ends
  pub lawful : (n : ℕ) → IsLawful (model_after list (object_at city.1) (take n ends))

-- The document stands for a city and the text for scripts; the ends are those of the scripts run one at a time on the
-- city; and the bytes are the report of the ends and the model after them
pub record IsRun (document scripts : List ℕ) (ends : List End) (bytes : List ℕ) : Type 0 where
  pub city : CityValue
  pub list : List Scripted
  pub read : IsReadFrom document scripts city list
  pub ran : AreEndsOf city list ends
  pub output : IsOutput city list ends bytes
