-- A board's poster, a viewer and its looks, as contracts see them.
use Rattle.std.specs.Prelude.{List, []}
use Rattle.logbook.specs.Pages.{Book}
use Rattle.city_model.specs.CityMap.{CityValue}
use Rattle.city_model.specs.Runs.{Change}
use Rattle.city_board.specs.HistoryValue.{HistoryValue}

-- a poster
pub record PosterValue : Type 0 where
  -- the board's name
  pub name : Book
  -- the board's opening city
  pub opening : CityValue
  pub published : List Change
  -- the published changes, then the pending ones
  pub taken : List Change

-- a viewer, or its look
pub record ViewerValue : Type 0 where
  pub name : Book
  pub opening : CityValue
  -- the changes seen or told of
  pub seen : List Change

-- the poster of a new board
abbrev pub new_poster : Book → CityValue → PosterValue
new_poster name city = record { name = name; opening = city; published = []; taken = [] }

-- a viewer who has seen these changes
abbrev pub viewer_of : HistoryValue → CityValue → ViewerValue
viewer_of seen opening = record { name = seen.name; opening = opening; seen = seen.changes }
