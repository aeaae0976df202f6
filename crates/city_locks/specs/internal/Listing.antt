-- The list of ids locked by each stamp.
use Rattle.std.specs.Prelude.{◌≡◌, ℕ, List, [], unwrap_or, is_some, true}
use Rattle.std.specs.Ordering.{nat_cmp}
use Rattle.std.specs.BTreeMap.{BTreeMap, get}
use Rattle.city_model.specs.CityMap.{has_id}
use Rattle.city_locks.specs.Locks.{Locks, mode_of}

-- the ids listed at the stamp
abbrev pub ids_of : BTreeMap ℕ (List (List ℕ)) → ℕ → List (List ℕ)
ids_of locked stamp = unwrap_or (get nat_cmp locked stamp) []

-- each held id is listed at its holder's stamp
pub record IsListed (locks : Locks) (locked : BTreeMap ℕ (List (List ℕ))) : Type 0 where
  pub listed : (s : ℕ) (q : List ℕ) → is_some (mode_of locks s q) ≡ true → has_id (ids_of locked s) q ≡ true
