-- Places in a journal where the model is known.
use Rattle.std.specs.Prelude.{◌≡◌, ◌≢◌, ◌++◌, ℕ, List, ◌∷◌}
use Rattle.std.specs.List.{AllByRecursion}
use Rattle.city_journal.specs.declared.reading.Place.{Place}

-- the sum of the model there, and how many commits stand before
abbrev pub place_read : Place → List ℕ × ℕ
place_read p = (p.sum.bytes, p.before)

-- the model has another sum there
abbrev pub HasOther : List ℕ → List ℕ × ℕ → Type 0
HasOther sum p = p.0 ≢ sum

-- before the last of these places where the model has this sum stand so many commits
pub record IsLastPlace (sum : List ℕ) (places : List (List ℕ × ℕ)) (n : ℕ) : Type 0 where
  pub front : List (List ℕ × ℕ)
  pub back : List (List ℕ × ℕ)
  pub is : places ≡ front ++ (sum, n) ∷ back
  pub last : AllByRecursion (HasOther sum) back
