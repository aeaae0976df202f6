-- The relations of an object, as tests that compute.
use Rattle.std.specs.Prelude.{◌==◌, ◌&&◌, ◌||◌, not, ℕ, List, [], ◌∷◌, length, Bool, true, false, Option}
use Rattle.std.specs.Prelude.{Some, None}
use Rattle.std.specs.List.{list_all}
use Rattle.std.specs.Ordering.{nat_cmp, is_lt}
use Rattle.std.specs.Cmp.Lexicographic.{slice_cmp}
use Rattle.city_model.specs.declared.object.Object.{Object}
use Rattle.city_model.specs.CityMap.{CityMap, same_id, has_id, parents_of}
use Rattle.city_model.specs.Relations.{is_second_level, same_family, is_orphan}

-- no id is there twice
abbrev pub are_distinct : List (List ℕ) → Bool
are_distinct [] = true
are_distinct (id ∷ ids) = not (has_id ids id) && are_distinct ids

-- each id is above the one before it, and the first above this one
abbrev pub are_increasing_from : List ℕ → List (List ℕ) → Bool
are_increasing_from last [] = true
are_increasing_from last (id ∷ ids) = is_lt (slice_cmp nat_cmp last id) && are_increasing_from id ids

abbrev pub are_increasing : List (List ℕ) → Bool
are_increasing [] = true
are_increasing (id ∷ ids) = are_increasing_from id ids

-- neither list repeats an id
abbrev pub relatives_once : Object → Bool
relatives_once o = are_distinct o.parents && are_distinct o.children

-- a first-level object has no parent
abbrev pub level_fits : Object → Bool
level_fits o = is_second_level o.body.kind || (length o.parents == 0)

-- the object at the id p may be a parent of the object: it is there, is another one, has it as a child, and is of its
-- family
abbrev pub parent_fits : List ℕ → Object → List ℕ → Option Object → Bool
parent_fits id o p None = false
parent_fits id o p (Some q) =
    not (same_id p id) && has_id q.children id && same_family q.body.kind o.body.kind

abbrev pub parents_fit : CityMap → List ℕ → Object → Bool
parents_fit m id o = list_all (λ p. parent_fits id o p (m p)) o.parents

-- each child has the object as a parent
abbrev pub children_fit : CityMap → List ℕ → Object → Bool
children_fit m id o = list_all (λ d. has_id (parents_of (m d)) id) o.children

abbrev pub is_in_order : CityMap → List ℕ → Object → Bool
is_in_order m id o = relatives_once o && level_fits o && parents_fit m id o && children_fit m id o

-- the object isn't in order, or is an orphan
abbrev pub is_misrelated : CityMap → List ℕ → Object → Bool
is_misrelated m id o = is_orphan o || not (is_in_order m id o)
