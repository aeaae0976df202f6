-- Ids in their order.
use Rattle.std.specs.Prelude.{◌≡◌, ℕ, List, [], ◌∷◌, ◌++◌, ◌<◌, ◌≤◌, suc, Bool, true, false, length, take, drop}
use Rattle.std.specs.List.{filter, list_all, list_any}
use Rattle.std.specs.Ordering.{nat_cmp, is_lt}
use Rattle.std.specs.Cmp.Lexicographic.{slice_cmp}
use Rattle.city_members.specs.Ids.{same_id}

abbrev pub is_below : List ℕ → List ℕ → Bool
is_below id other = is_lt (slice_cmp nat_cmp id other)

-- some of the ids is below this one
abbrev pub has_below : List (List ℕ) → List ℕ → Bool
has_below ids id = list_any (λ q. is_below q id) ids

-- no id is below one that stands before it
abbrev pub Ascends : List (List ℕ) → Type 0
Ascends [] = Unit {0}
Ascends (id ∷ ids) = (has_below ids id ≡ false) × Ascends ids

-- the ids before the place are below this one, and no others are
pub record IsPlace (ids : List (List ℕ)) (id : List ℕ) (at : ℕ) : Type 0 where
  pub within : at ≤ length ids
  pub before : list_all (λ q. is_below q id) (take at ids) ≡ true
  pub after : has_below (drop at ids) id ≡ false

-- the id stands at the place
pub record StandsAt (ids : List (List ℕ)) (id : List ℕ) (at : ℕ) : Type 0 where
  pub within : at < length ids
  pub is : ids ≡ take at ids ++ id ∷ drop (suc at) ids

-- how often the id stands in the list
abbrev pub times_in : List (List ℕ) → List ℕ → ℕ
times_in ids id = length (filter (same_id id) ids)

-- the index has the ids of the list, in byte order
pub record IsIndex (index ids : List (List ℕ)) : Type 0 where
  pub ascends : Ascends index
  pub as_often : (id : List ℕ) → times_in index id ≡ times_in ids id
