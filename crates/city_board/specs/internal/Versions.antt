-- Versions of a city, each made from the one before by an edit.
use Rattle.std.specs.Prelude.{◌≡◌, List, [], ◌∷◌, ◌++◌}
use Rattle.city_model.specs.CityMap.{CityValue, object_at}
use Rattle.city_model.specs.Relations.{IsLawful}
use Rattle.city_model.specs.Runs.{Change, after_change, after_changes}
use Rattle.city_model.specs.Writing.{objects_after}
use Rattle.city_board.specs.HistoryValue.{HistoryValue, history_of}
use Rattle.city_board.specs.declared.version.Edit.{Edit}
use Rattle.city_board.specs.declared.version.Version.{Version}

-- the city with a change written into it
abbrev pub city_with : CityValue → Change → CityValue
city_with city change = (city.0, objects_after city.1 change)

-- the version after an edit
abbrev pub edited : Version → Edit → Version
edited x e = record x { city = city_with x.city e.change; history = e.history }

-- its city is the opening city after the changes of its history, and lawful
pub record IsFaithful (x : Version) : Type 0 where
  pub frame : x.city.0 ≡ x.opening.0
  pub objects : object_at x.city.1 ≡ after_changes (object_at x.opening.1) x.history.changes
  pub lawful : IsLawful (object_at x.city.1)

-- the edit writes one change more, and leaves the city lawful
pub record IsNextEdit (x : Version) (e : Edit) : Type 0 where
  pub history : e.history ≡ history_of x.history.name (x.history.changes ++ e.change ∷ [])
  pub lawful : IsLawful (after_change (object_at x.city.1) e.change)

-- the edits, each next to those before it, lead from the version to this history
abbrev pub LeadTo : Version → List Edit → HistoryValue → Type 0
LeadTo x [] history = x.history ≡ history
LeadTo x (e ∷ es) history = IsNextEdit x e × LeadTo (edited x e) es history
