-- A city as a map: the object of each id (CityJSON 2.0, section 2, `CityObjects`).
use Rattle.std.specs.Prelude.{ℕ, List, [], Option, Some, None}
use Rattle.std.specs.Ordering.{nat_cmp}
use Rattle.std.specs.Cmp.Lexicographic.{slice_cmp}
use Rattle.std.specs.FinMap.{FinMap, get}
use Rattle.std.specs.Map.{lookup, update}
use Rattle.std.specs.BTreeMap.{is_at}
pub use Rattle.city_members.specs.Ids.{same_id, has_id}
use Rattle.city_model.specs.declared.frame.Frame.{Frame}
use Rattle.city_model.specs.declared.object.Object.{Object}

-- a finite map from ids, in byte order, to objects
abbrev pub Objects : Type 0
Objects = FinMap (slice_cmp nat_cmp) Object

-- a city: a frame, and the objects by their ids
abbrev pub CityValue : Type 0
CityValue = Frame × Objects

-- the object of each id
abbrev pub CityMap : Type 0
CityMap = List ℕ → Option Object

abbrev pub object_at : Objects → CityMap
object_at objects id = get objects id

-- ids and objects as a text lists them, in any order
abbrev pub Entries : Type 0
Entries = List (List ℕ × Object)

-- the object of an id in a list: the first one
abbrev pub found_in : Entries → CityMap
found_in es id = lookup (is_at (slice_cmp nat_cmp id)) es

-- the map with another object, or none, at an id
abbrev pub changed : CityMap → List ℕ → Option Object → CityMap
changed m id object = update same_id m id object

abbrev pub parents_of : Option Object → List (List ℕ)
parents_of None = []
parents_of (Some o) = o.parents

abbrev pub children_of : Option Object → List (List ℕ)
children_of None = []
children_of (Some o) = o.children
