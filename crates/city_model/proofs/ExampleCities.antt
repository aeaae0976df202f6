-- Words for small cities, for the worked examples.
use Rattle.city_model.proofs.Prelude.{arith, ◌≡◌, ℕ, List, [], ◌∷◌, Bool, true, false, Option, Less, refl, ◌≤◌}
use Rattle.city_model.proofs.Prelude.{if◌then◌else◌, option_map, slice_get, codes, nat_cmp, slice_cmp, Object, Entries}
use Rattle.city_model.proofs.Prelude.{CityMap, found_in, changed, same_id, is_orphan, is_orphan_there, HasNoOrphan}
use Rattle.city_model.proofs.Prelude.{IsOrphanAt, IsLeastOrphan, deleted, without_child, without_parent, with_child}
use Rattle.city_model.proofs.Prelude.{with_parent, attached, detached, no_members, member, Body, Command, Reply, End}
use Rattle.city_model.proofs.Prelude.{Outcome, ObjectType, LandUse, Scripted, IsScriptResult, IsEndOf}
use Rattle.std.specs.Prelude.{Some}
use Rattle.city_members.proofs.Ids.{below_is_apart}
use Rattle.serde_json.specs.Data.{number, unsigned}
use Rattle.serde_json.specs.Data as Data

abbrev pub one_id : List ℕ → List (List ℕ)
one_id id = id ∷ []

-- a body without geometry and without kept members
abbrev pub bare : ObjectType → Body
bare kind = record { kind = kind; geometry = []; extra = no_members }

-- an object of a bare body, with these parents and these children
abbrev pub object : ObjectType → List (List ℕ) → List (List ℕ) → Object
object kind parents children = record { body = bare kind; parents = parents; children = children }

abbrev pub alone : ObjectType → Object
alone kind = object kind [] []

-- a land use with the number n as its attribute
abbrev pub numbered : ℕ → Body
numbered n = record {
  kind = LandUse;
  geometry = [];
  extra = member (codes "attributes") (Data.object (member (codes "n") (number (unsigned n)) no_members)) no_members;
}

-- the end of a committed script, with its last attempt begun at this place
abbrev pub committed : ℕ → List ℕ → ℕ → List Reply → End
committed script name since replies =
    record { script = script; name = name; since = since; replies = replies; outcome = Outcome.Committed }

-- an end is a result of its script at this map
pub in_turn : {scripts : List Scripted} {m : CityMap} {place : ℕ} {e : End} {cs : List Command}
    → slice_get scripts e.script ≡ Some (e.name, cs) → e.since ≤ place → IsScriptResult m cs e.replies e.outcome
    → IsEndOf scripts m place e
in_turn {e = e} {cs = cs} there since result =
    record { script = (e.name, cs); is_there = there; named = refl; since = since; result = result }

-- ---- maps without orphans, and the least orphan of a map, object by object

pub no_orphan : (m : CityMap) → ((q : List ℕ) → is_orphan_there (m q) ≡ false) → HasNoOrphan m
no_orphan m f id o e = grind (arith, f id)

pub least_orphan : (m : CityMap) (id : List ℕ) → IsOrphanAt m id
    → ((q : List ℕ) → slice_cmp nat_cmp q id ≡ Less → is_orphan_there (m q) ≡ false) → IsLeastOrphan m id
least_orphan m id found f = grind (arith, f)

abbrev pub has_orphan : Entries → Bool
has_orphan [] = false
has_orphan (e ∷ es) = if is_orphan e.1 then true else has_orphan es

pub no_orphan_at : (es : Entries) (q : List ℕ) → has_orphan es ≡ false → is_orphan_there (found_in es q) ≡ false
no_orphan_at [] q h = refl
no_orphan_at (e ∷ es) q h = grind (arith, no_orphan_at es q)

-- ---- after a command

pub no_orphan_put : (m : CityMap) (id : List ℕ) (w : Option Object) (q : List ℕ) → is_orphan_there w ≡ false
    → is_orphan_there (m q) ≡ false → is_orphan_there (changed m id w q) ≡ false
no_orphan_put m id w q there here = grind arith

-- the child may have been an orphan
pub no_orphan_attached : (m : CityMap) (child parent q : List ℕ)
    → is_orphan_there (option_map (with_parent parent) (m child)) ≡ false
    → is_orphan_there (option_map (with_child child) (m parent)) ≡ false
    → (same_id child q ≡ false → is_orphan_there (m q) ≡ false) → is_orphan_there (attached m child parent q) ≡ false
no_orphan_attached m child parent q of_child of_parent here = grind arith

-- at another id
pub orphan_apart : (m : CityMap) (id : List ℕ) (w : Option Object) (q : List ℕ) → same_id id q ≡ false
    → is_orphan_there (m q) ≡ false → is_orphan_there (changed m id w q) ≡ false
orphan_apart m id w q apart h = rw apart h

pub no_orphan_detached : (m : CityMap) (child parent q : List ℕ)
    → is_orphan_there (option_map (without_parent parent) (m child)) ≡ false
    → is_orphan_there (option_map (without_child child) (m parent)) ≡ false → is_orphan_there (m q) ≡ false
    → is_orphan_there (detached m child parent q) ≡ false
no_orphan_detached m child parent q of_child of_parent here = grind arith

-- below a detached child
pub no_orphan_detached_below : (m : CityMap) (child parent q : List ℕ) → slice_cmp nat_cmp q child ≡ Less
    → is_orphan_there (option_map (without_child child) (m parent)) ≡ false → is_orphan_there (m q) ≡ false
    → is_orphan_there (detached m child parent q) ≡ false
no_orphan_detached_below m child parent q below of_parent here = grind (arith, below_is_apart q child)

pub no_orphan_deleted : (m : CityMap) (id q : List ℕ) → is_orphan_there (m q) ≡ false
    → is_orphan_there (deleted m id q) ≡ false
no_orphan_deleted m id q here = grind arith
