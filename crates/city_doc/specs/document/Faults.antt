-- The faults of a document, and the first of them.
use Rattle.std.specs.Prelude.{◌≡◌, ◌⊎◌, ◌<◌, ℕ, List, Bool, false, Option, Some, None, option_and_then, codes}
use Rattle.std.specs.Prelude.{is_some, length}
use Rattle.serde_json.specs.Data.{Data, Members, no_members}
use Rattle.serde_json.specs.Find.{get, get_member, as_object}
use Rattle.city_model.specs.declared.object.Point.{Point}
use Rattle.city_members.specs.Integral.{is_integral}
use Rattle.city_doc.specs.declared.fault.ReadFault.{ReadFault}
use Rattle.city_doc.specs.declared.fault.ReadFault.TheVariants.{OutOfMemory, TooLong, NotJson, NotWhole}
use Rattle.city_doc.specs.declared.fault.ReadFault.TheVariants.{NotCityJson, UnknownType, Unsupported}
use Rattle.city_doc.specs.declared.fault.ReadFault.TheVariants.{BadGeometry, BadVertex, BadRing, Relations}
use Rattle.city_doc.specs.declared.fault.ReadFault.TheVariants.{OpenShell}
use Rattle.city_doc.specs.document.CityFaults.{or_empty, has_bad_ring, has_open_shell, IsLeastBadlyRelated}
use Rattle.city_doc.specs.document.Top.{wrong_member}
use Rattle.city_doc.specs.object.Faults.{is_unknown_type, unsupported_name, is_bad_geometry, has_bad_vertex}
use Rattle.city_doc.specs.document.Least.{IsLeastWith}
use Rattle.city_tokens.specs.tree.Texts.{IsTooLong, IsNoJson, HasTree}
use Rattle.city_tokens.specs.document.Cities.{points_in}

abbrev pub members_of : Option Members → Members
members_of None = no_members
members_of (Some ms) = ms

-- the objects of a tree by their ids
abbrev pub objects_in : Data → Members
objects_in d = members_of (option_and_then as_object (get (codes "CityObjects") d))

-- the points of a tree's vertices
abbrev pub vertices_in : Data → List Point
vertices_in d = or_empty (points_in d)

abbrev pub is_unsupported : Data → Bool
is_unsupported d = is_some (unsupported_name d)

-- the name of the first unsupported thing in the object of this id
abbrev pub unsupported_at : Members → List ℕ → Option (List ℕ)
unsupported_at objects id = option_and_then unsupported_name (get_member id objects)

-- the fault stands in the objects, at the least id with it; positions index these points
abbrev pub StandsAmong : List Point → Members → ReadFault → Type 0
StandsAmong points objects OutOfMemory = ⊥
StandsAmong points objects TooLong = ⊥
StandsAmong points objects NotJson = ⊥
StandsAmong points objects NotWhole = ⊥
StandsAmong points objects (NotCityJson name) = ⊥
StandsAmong points objects (UnknownType id) = IsLeastWith is_unknown_type objects id
StandsAmong points objects (Unsupported id name) =
    IsLeastWith is_unsupported objects id × (unsupported_at objects id ≡ Some name)
StandsAmong points objects (BadGeometry id) = IsLeastWith is_bad_geometry objects id
StandsAmong points objects (BadVertex id) = IsLeastWith (has_bad_vertex (length points)) objects id
StandsAmong points objects (BadRing id) = IsLeastWith (has_bad_ring points) objects id
StandsAmong points objects (Relations id) = IsLeastBadlyRelated points objects id
StandsAmong points objects (OpenShell id) = IsLeastWith (has_open_shell points) objects id

-- the fault stands in the tree
abbrev pub StandsIn : Data → ReadFault → Type 0
StandsIn d NotWhole = is_integral d ≡ false
StandsIn d (NotCityJson name) = wrong_member d ≡ Some name
StandsIn d f = StandsAmong (vertices_in d) (objects_in d) f

-- the rank of a fault in the order
abbrev pub rank_of : ReadFault → ℕ
rank_of OutOfMemory = 0
rank_of TooLong = 1
rank_of NotJson = 2
rank_of NotWhole = 3
rank_of (NotCityJson name) = 4
rank_of (UnknownType id) = 5
rank_of (Unsupported id name) = 6
rank_of (BadGeometry id) = 7
rank_of (BadVertex id) = 8
rank_of (BadRing id) = 9
rank_of (Relations id) = 10
rank_of (OpenShell id) = 11

-- this one stands, and none before it in the order
abbrev pub IsFirst : (ReadFault → Type 0) → ReadFault → Type 0
IsFirst stands f = stands f × ((g : ReadFault) → rank_of g < rank_of f → stands g → ⊥)

-- the text has a tree, and the fault is the first of the tree
abbrev pub IsFirstInTree : List ℕ → ReadFault → Type 0
IsFirstInTree text f = (d : Data) × HasTree text d × IsFirst (StandsIn d) f

-- memory ran out, or the fault is the first of the text
abbrev pub DocumentFault : List ℕ → ReadFault → Type 0
DocumentFault text f =
    (f ≡ OutOfMemory)
    ⊎ (((f ≡ TooLong) × IsTooLong text)
    ⊎ (((f ≡ NotJson) × IsNoJson text)
    ⊎ IsFirstInTree text f))
