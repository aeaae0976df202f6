-- Sets of the ids of lists.
use Rattle.std.specs.Prelude.{◌≡◌, ℕ, List, Bool}
use Rattle.city_model.specs.CityMap.{has_id}
use Rattle.city_model.specs.internal.RelationTests.{are_distinct}

-- the keys are the ids of the list; `once` says whether the list has no id twice
pub record IsSetOf (ids keys : List (List ℕ)) (once : Bool) : Type 0 where
  pub same : (q : List ℕ) → has_id keys q ≡ has_id ids q
  pub distinct : once ≡ are_distinct ids
