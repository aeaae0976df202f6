-- A placeholder city.
use Rattle.std.specs.Prelude.{[]}
use Rattle.std.specs.FinMap.{empty}
use Rattle.serde_json.specs.Data.{no_members}
use Rattle.city_model.specs.CityMap.{CityValue}

abbrev pub no_city : CityValue
no_city = (record { scale = []; translate = []; more = no_members; extra = no_members }, empty)
