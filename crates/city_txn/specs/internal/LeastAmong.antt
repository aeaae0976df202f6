-- The least id of a list that passes a test.
use Rattle.std.specs.Prelude.{◌≡◌, ℕ, Bool, true, false, List, Option, None, Some, not, if◌then◌else◌}
use Rattle.std.specs.Ordering.{is_lt, nat_cmp}
use Rattle.std.specs.Cmp.Lexicographic.{slice_cmp}
use Rattle.city_model.specs.CityMap.{has_id}

-- the lesser of the two
abbrev pub lesser : Option (List ℕ) → List ℕ → List ℕ
lesser None id = id
lesser (Some least) id = if is_lt (slice_cmp nat_cmp least id) then least else id

-- whether it is there, and not above the id
abbrev pub is_below : Option (List ℕ) → List ℕ → Bool
is_below None id = false
is_below (Some least) id = not (is_lt (slice_cmp nat_cmp id least))

-- the least of the ids that pass; None if none does
pub record IsLeastAmong (p : List ℕ → Bool) (ids : List (List ℕ)) (least : Option (List ℕ)) : Type 0 where
  pub passes : (id : List ℕ) → least ≡ Some id → p id ≡ true
  pub below : (id : List ℕ) → has_id ids id ≡ true → p id ≡ true → is_below least id ≡ true
