-- The shelf of a run as contracts see it.
use Rattle.std.specs.Prelude.{List, Option, None, Some}
use Rattle.city_model.specs.CityMap.{CityValue}
use Rattle.city_model.specs.Runs.{Change}
use Rattle.city_crew.specs.declared.crew_shelf.CrewShelf.{CrewShelf}
use Rattle.city_crew.specs.declared.crew_shelf.CrewShelf.TheVariants.{Unseen, Posted}

-- the changes taken
abbrev pub taken_by : {R : Type 0} → CrewShelf R → List Change
taken_by (Unseen changes) = changes
taken_by (Posted poster) = poster.taken

-- the changes visible to viewers, if there are any
abbrev pub published_by : {R : Type 0} → CrewShelf R → Option (List Change)
published_by (Unseen changes) = None
published_by (Posted poster) = Some poster.published

-- the opening city of its board, if it has one
abbrev pub base_of : {R : Type 0} → CrewShelf R → Option CityValue
base_of (Unseen changes) = None
base_of (Posted poster) = Some poster.opening
