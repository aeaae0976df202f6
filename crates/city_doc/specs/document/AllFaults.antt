-- All faults of a document's text, each at its id, and their order.
use Rattle.std.specs.Prelude.{◌≡◌, ◌⊎◌, ◌<◌, ◌&&◌, not, ℕ, List, [], Bool, true, false, Some, None, length}
use Rattle.std.specs.declared.cmp.Ordering.TheVariants.{Less}
use Rattle.std.specs.Ordering.{nat_cmp}
use Rattle.std.specs.Cmp.Lexicographic.{slice_cmp}
use Rattle.serde_json.specs.Data.{Data, Members}
use Rattle.city_model.specs.declared.object.Point.{Point}
use Rattle.city_members.specs.Integral.{is_integral}
use Rattle.city_doc.specs.declared.fault.ReadFault.{ReadFault}
use Rattle.city_doc.specs.declared.fault.ReadFault.TheVariants.{OutOfMemory, TooLong, NotJson, NotWhole}
use Rattle.city_doc.specs.declared.fault.ReadFault.TheVariants.{NotCityJson, UnknownType, Unsupported}
use Rattle.city_doc.specs.declared.fault.ReadFault.TheVariants.{BadGeometry, BadVertex, BadRing, Relations}
use Rattle.city_doc.specs.declared.fault.ReadFault.TheVariants.{OpenShell}
use Rattle.city_doc.specs.FaultLists.{AreAll}
use Rattle.city_doc.specs.document.CityFaults.{has_bad_ring, has_open_shell, IsBadlyRelatedAt}
use Rattle.city_doc.specs.document.Faults.{objects_in, vertices_in, unsupported_at, rank_of}
use Rattle.city_doc.specs.document.Least.{Has}
use Rattle.city_doc.specs.document.Top.{wrong_member}
use Rattle.city_doc.specs.object.Faults.{is_unknown_type, is_bad_geometry, has_bad_vertex}
use Rattle.city_tokens.specs.tree.Texts.{IsTooLong, IsNoJson, HasTree}

-- ---- when a fault stands

-- the geometry isn't bad, and a position in it is negative, or isn't less than the count
abbrev pub is_misplaced : ℕ → Data → Bool
is_misplaced count d = not (is_bad_geometry d) && has_bad_vertex count d

-- the object of the fault has it; positions index these points
abbrev pub StandsAt : List Point → Members → ReadFault → Type 0
StandsAt points objects OutOfMemory = ⊥
StandsAt points objects TooLong = ⊥
StandsAt points objects NotJson = ⊥
StandsAt points objects NotWhole = ⊥
StandsAt points objects (NotCityJson name) = ⊥
StandsAt points objects (UnknownType id) = Has is_unknown_type objects id
StandsAt points objects (Unsupported id name) = unsupported_at objects id ≡ Some name
StandsAt points objects (BadGeometry id) = Has is_bad_geometry objects id
StandsAt points objects (BadVertex id) = Has (is_misplaced (length points)) objects id
StandsAt points objects (BadRing id) = Has (has_bad_ring points) objects id
StandsAt points objects (Relations id) = IsBadlyRelatedAt points objects id
StandsAt points objects (OpenShell id) = Has (has_open_shell points) objects id

-- the fault is one of the tree: a number isn't whole; else the first wrong member of the top; else a fault of an object
abbrev pub IsFaultOfTree : Data → ReadFault → Type 0
IsFaultOfTree d NotWhole = is_integral d ≡ false
IsFaultOfTree d (NotCityJson name) = (is_integral d ≡ true) × (wrong_member d ≡ Some name)
IsFaultOfTree d f =
    (is_integral d ≡ true) × (wrong_member d ≡ None) × StandsAt (vertices_in d) (objects_in d) f

-- the fault is one of the text
abbrev pub IsFaultOf : List ℕ → ReadFault → Type 0
IsFaultOf text f =
    ((f ≡ TooLong) × IsTooLong text)
    ⊎ (((f ≡ NotJson) × IsNoJson text)
    ⊎ ((d : Data) × HasTree text d × IsFaultOfTree d f))

-- ---- their order

-- the id of a fault; no bytes if it has none
abbrev pub id_of : ReadFault → List ℕ
id_of OutOfMemory = []
id_of TooLong = []
id_of NotJson = []
id_of NotWhole = []
id_of (NotCityJson name) = []
id_of (UnknownType id) = id
id_of (Unsupported id name) = id
id_of (BadGeometry id) = id
id_of (BadVertex id) = id
id_of (BadRing id) = id
id_of (Relations id) = id
id_of (OpenShell id) = id

-- the first has the lower rank, or the same and the lower id
abbrev pub IsBefore : ReadFault → ReadFault → Type 0
IsBefore f g =
    (rank_of f < rank_of g) ⊎ ((rank_of f ≡ rank_of g) × (slice_cmp nat_cmp (id_of f) (id_of g) ≡ Less))

-- all faults with the property, each once, in order
abbrev pub AreThose : (ReadFault → Type 0) → List ReadFault → Type 0
AreThose P faults = AreAll IsBefore P faults

-- all faults of the text, each once, in order
abbrev pub AreFaultsOf : List ℕ → List ReadFault → Type 0
AreFaultsOf text faults = AreThose (IsFaultOf text) faults
