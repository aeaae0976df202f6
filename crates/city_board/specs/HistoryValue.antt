-- A board's history up to some change, as contracts see it.
use Rattle.std.specs.Prelude.{List}
use Rattle.logbook.specs.Pages.{Book}
use Rattle.city_model.specs.Runs.{Change}

pub record HistoryValue : Type 0 where
  -- the board's name
  pub name : Book
  pub changes : List Change

abbrev pub history_of : Book → List Change → HistoryValue
history_of name changes = record { name = name; changes = changes }
