-- A history only grows, one change at a time; its length stands in the one word of its head.
use Rattle.std.specs.Prelude.{ℕ, ◌≡◌, ◌==◌, true, List, [], ◌∷◌, ◌++◌, length, MatchBool}
use Rattle.logbook.specs.Pages.{Cell, Step, View, Book, Named}
use Rattle.city_model.specs.Runs.{Change}

-- the first word is the length of the history, the second one is unused
abbrev pub HasLength : List Cell → List Change → Type 0
HasLength cells changes = cells ≡ (length changes, true) ∷ (0, true) ∷ []

-- the first word of the history of this name
abbrev pub head_of : Book → Named
head_of name = record { tracked = true; key = 0; book = name }

-- the change was added to all changes known, or the history is longer
abbrev pub Adds : Step Change → View Change ℕ → ℕ → View Change ℕ → Type 0
Adds step before found after =
    MatchBool (found == step.old) (after.0 ≡ before.0 ++ step.ask ∷ []) (length after.0 ≡ found)
