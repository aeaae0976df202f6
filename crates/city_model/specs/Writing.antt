-- The write of a change at an id, and a change written into the objects of a city, one id after another.
use Rattle.std.specs.Prelude.{ℕ, List, [], ◌∷◌, Option, Some, None}
use Rattle.std.specs.Map.{lookup}
use Rattle.std.specs.Ordering.{nat_cmp}
use Rattle.std.specs.Cmp.Lexicographic.{slice_cmp}
use Rattle.std.specs.BTreeMap.{is_at}
use Rattle.std.specs.FinMap.{insert, remove}
use Rattle.city_model.specs.declared.object.Object.{Object}
use Rattle.city_model.specs.CityMap.{Objects}
use Rattle.city_model.specs.Runs.{Change}

-- its write at the id: an object, a delete, or nothing. It is the first pair of the id, and `after_change` ends with
-- the last. A change in a contract has each id once: the map after it has its write at the id, or, without one, the
-- previous object (`Change::iter`, clause `map`)
abbrev pub write_in : Change → List ℕ → Option (Option Object)
write_in change id = lookup (is_at (slice_cmp nat_cmp id)) change

-- the objects with another one, or none, at an id
abbrev pub objects_with : Objects → List ℕ → Option Object → Objects
objects_with objects id None = remove objects id
objects_with objects id (Some o) = insert objects id o

abbrev pub objects_after : Objects → Change → Objects
objects_after objects [] = objects
objects_after objects (w ∷ ws) = objects_after (objects_with objects w.0 w.1) ws
