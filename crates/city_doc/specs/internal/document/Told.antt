-- Searches for faults in one object after another.
use Rattle.std.specs.Prelude.{◌≡◌, ◌==◌, ◌&&◌, ◌||◌, not, length, ℕ, List, [], ◌∷◌, ◌++◌, Bool, false, Option, Some}
use Rattle.std.specs.Prelude.{None}
use Rattle.std.specs.Prelude.{option_map, if◌then◌else◌}
use Rattle.city_model.specs.declared.object.Body.{Body}
use Rattle.city_model.specs.declared.object.Object.{Object}
use Rattle.city_model.specs.CityMap.{CityMap}
use Rattle.city_model.specs.Shells.{some_shape, has_open_shell}
use Rattle.city_model.specs.internal.RelationTests.{is_misrelated}
use Rattle.city_doc.specs.declared.document.indexed.ReadObject.{ReadObject}
use Rattle.city_doc.specs.declared.fault.ReadFault.{ReadFault}
use Rattle.city_doc.specs.declared.fault.ReadFault.TheVariants.{UnknownType, Unsupported, BadGeometry, BadVertex}
use Rattle.city_doc.specs.declared.fault.ReadFault.TheVariants.{BadRing, Relations, OpenShell}
use Rattle.city_doc.specs.document.AllFaults.{AreThose}
use Rattle.city_doc.specs.document.CityFaults.{is_bad_ringed}
use Rattle.city_doc.specs.internal.document.ReadObjects.{ReadEntries, built_in}

-- all faults with the property, each once, in order, or with `first_only` the first of them; there is one at least
abbrev pub AreBegun : Bool → (ReadFault → Type 0) → List ReadFault → Type 0
AreBegun first_only P faults = (f : ReadFault) × (fs : List ReadFault) × AreThose P (f ∷ fs)
    × (faults ≡ f ∷ (if first_only then [] else fs))

abbrev pub with_found : {A : Type 0} → Option A → List A → List A
with_found None xs = xs
with_found (Some x) xs = x ∷ xs

-- the faults found at each object, in their order
abbrev pub told : (List ℕ → ReadObject → Option ReadFault) → ReadEntries → List ReadFault
told find [] = []
told find (e ∷ es) = with_found (find e.0 e.1) (told find es)

-- faults, and these behind them, one after another; with `first_only` until there is one
abbrev pub told_behind : Bool → List ReadFault → List ReadFault → List ReadFault
told_behind first_only fs [] = fs
told_behind first_only fs (g ∷ gs) =
    if first_only && not (length fs == 0) then fs else told_behind first_only (fs ++ g ∷ []) gs

-- ---- the faults found at one object

abbrev pub only_where : Bool → ReadFault → Option ReadFault
only_where b f = if b then Some f else None

abbrev pub unknown_type : List ℕ → ReadObject → Option ReadFault
unknown_type id r = only_where r.has_unknown_type (UnknownType id)

abbrev pub unsupported : List ℕ → ReadObject → Option ReadFault
unsupported id r = option_map (λ name. Unsupported id name) r.unsupported

abbrev pub bad_geometry : List ℕ → ReadObject → Option ReadFault
bad_geometry id r = only_where r.has_bad_geometry (BadGeometry id)

abbrev pub bad_vertex : List ℕ → ReadObject → Option ReadFault
bad_vertex id r = only_where r.is_misplaced (BadVertex id)

-- an object is there, and its body has it
abbrev pub body_there : (Body → Bool) → Option Object → Bool
body_there test None = false
body_there test (Some o) = test o.body

abbrev pub bad_ring : List ℕ → ReadObject → Option ReadFault
bad_ring id r = only_where (body_there is_bad_ringed r.object) (BadRing id)

abbrev pub open_shell : List ℕ → ReadObject → Option ReadFault
open_shell id r = only_where (body_there (some_shape has_open_shell) r.object) (OpenShell id)

-- an object is there, and it isn't in order or is an orphan
abbrev pub misrelated_there : CityMap → List ℕ → Option Object → Bool
misrelated_there m id None = false
misrelated_there m id (Some o) = is_misrelated m id o

abbrev pub relations : CityMap → List ℕ → ReadObject → Option ReadFault
relations m id r = only_where (r.has_bad_list || misrelated_there m id r.object) (Relations id)

-- the faults of all kinds, one kind after another
abbrev pub all_told : ReadEntries → List ReadFault
all_told es =
    ((((((told unknown_type es ++ told unsupported es) ++ told bad_geometry es)
    ++ told bad_vertex es) ++ told bad_ring es) ++ told (relations (built_in es)) es)
    ++ told open_shell es)
