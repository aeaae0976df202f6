-- Small sessions: two planners and one building, a death, a mark, and an orphan.
use Rattle.std.specs.Prelude.{◌≡◌, ◌≤◌, ℕ, List, [], ◌∷◌, Bool, true, false, Option, Some, option_map, slice_get}
use Rattle.std.specs.Prelude.{take, refl, codes, if◌then◌else◌}
use Rattle.std.proofs.Common.{arith, inl}
use Rattle.city_model.specs.declared.command.Command.{Command}
use Rattle.city_model.specs.declared.command.Command.TheVariants.{Read, Put, Set, Expect, Attach, Mark, Back, Commit}
use Rattle.city_model.specs.declared.command.Cause.TheVariants.{NoMark, Orphan, Unexpected}
use Rattle.city_model.specs.declared.command.Reply.TheVariants.{Found, Absent, Added, Replaced, Attached, Marked, WentBack}
use Rattle.city_model.specs.declared.command.Reply.TheVariants.{AttributesSet, Expected, Refused}
use Rattle.city_model.specs.declared.end.End.{End}
use Rattle.city_model.specs.declared.object.Body.{Body}
use Rattle.city_model.specs.declared.object.Object.{Object}
use Rattle.city_model.specs.declared.object_type.ObjectType.{ObjectType}
use Rattle.city_model.specs.declared.object_type.ObjectType.TheVariants.{Building, BuildingPart, LandUse}
use Rattle.serde_json.specs.Data.{Members, no_members, member, number, unsigned}
use Rattle.serde_json.specs.Data as Data
use Rattle.city_model.specs.CityMap.{CityMap, Entries, found_in, changed, same_id}
use Rattle.city_model.specs.Actions.{attached, with_parent, with_child}
use Rattle.city_model.specs.Marks.{unmarked}
use Rattle.city_model.specs.Meaning.{Does}
use Rattle.city_model.specs.Relations.{HasNoOrphan, is_orphan, is_orphan_there}
use Rattle.city_model.specs.Runs.{Scripted, IsEndOf, IsScriptResult, IsSerialHistory, model_after}
use Rattle.city_session.specs.Grown.{Grown, Closed, scripts_of, ends_of, IsTold}

-- ---- small cities

-- a body without geometry, with these kept members
abbrev body : ObjectType → Members → Body
body kind extra = record { kind = kind; geometry = []; extra = extra }

abbrev alone : ObjectType → Members → Object
alone kind extra = record { body = body kind extra; parents = []; children = [] }

-- one attribute, a number
abbrev numbered : List ℕ → ℕ → Members
numbered name n = member name (number (unsigned n)) no_members

abbrev with : Members → Members
with attributes = member (codes "attributes") (Data.object attributes) no_members

no_orphan : (m : CityMap) → ((q : List ℕ) → is_orphan_there (m q) ≡ false) → HasNoOrphan m
no_orphan m f id o e = grind (arith, f id)

abbrev has_orphan : Entries → Bool
has_orphan [] = false
has_orphan (e ∷ es) = if is_orphan e.1 then true else has_orphan es

no_orphan_at : (es : Entries) (q : List ℕ) → has_orphan es ≡ false → is_orphan_there (found_in es q) ≡ false
no_orphan_at [] q h = refl
no_orphan_at (e ∷ es) q h = grind (arith, no_orphan_at es q)

no_orphan_put : (m : CityMap) (id : List ℕ) (w : Option Object) (q : List ℕ) → is_orphan_there w ≡ false
    → is_orphan_there (m q) ≡ false → is_orphan_there (changed m id w q) ≡ false
no_orphan_put m id w q there here = grind arith

-- the child may have been an orphan
no_orphan_attached : (m : CityMap) (child parent q : List ℕ)
    → is_orphan_there (option_map (with_parent parent) (m child)) ≡ false
    → is_orphan_there (option_map (with_child child) (m parent)) ≡ false
    → (same_id child q ≡ false → is_orphan_there (m q) ≡ false) → is_orphan_there (attached m child parent q) ≡ false
no_orphan_attached m child parent q of_child of_parent here = grind arith

orphan_apart : (m : CityMap) (id : List ℕ) (w : Option Object) (q : List ℕ) → same_id id q ≡ false
    → is_orphan_there (m q) ≡ false → is_orphan_there (changed m id w q) ≡ false
orphan_apart m id w q apart h = rw apart h

in_turn : {scripts : List Scripted} {m : CityMap} {place : ℕ} {e : End} {cs : List Command}
    → slice_get scripts e.script ≡ Some (e.name, cs) → e.since ≤ place → IsScriptResult m cs e.replies e.outcome
    → IsEndOf scripts m place e
in_turn {e = e} {cs = cs} there since result =
    record { script = (e.name, cs); is_there = there; named = refl; since = since; result = result }

-- closed transactions, over a city of these objects, are a serial history
abbrev AreSerial : Entries → List Closed → Type 0
AreSerial es closed = IsSerialHistory (scripts_of closed) (found_in es) (ends_of closed)

-- the city after the first n of them
abbrev city_after : Entries → List Closed → ℕ → CityMap
city_after es closed n = model_after (scripts_of closed) (found_in es) (take n (ends_of closed))

-- ---- two planners add a storey to one building: the younger dies, and comes back when the older has committed

abbrev storeys : ℕ → Members
storeys n = numbered (codes "storeys") n

abbrev house : ℕ → Object
house n = alone Building (with (storeys n))

abbrev street : Entries
street = (codes "b", house 2) ∷ []

abbrev ben_who_dies : Grown
ben_who_dies = record { since = 0; told = (Read (codes "z"), Absent) ∷ [] }

abbrev ann : Grown
ann = record {
  since = 0;
  told = (Expect (codes "b") (storeys 2), Expected) ∷ (Set (codes "b") (storeys 3), AttributesSet) ∷ [];
}

abbrev ben_again : Grown
ben_again = record {
  since = 2;
  told = (Expect (codes "b") (storeys 2), Refused (Unexpected (codes "b")))
      ∷ (Expect (codes "b") (storeys 3), Expected)
      ∷ (Set (codes "b") (storeys 4), AttributesSet)
      ∷ [];
}

abbrev planners : List Closed
planners = (ben_who_dies, false) ∷ (ann, true) ∷ (ben_again, true) ∷ []

house_there : (n : ℕ) → HasNoOrphan (changed (found_in street) (codes "b") (Some (house n)))
house_there n = no_orphan _ (λ q. no_orphan_put (found_in street) (codes "b") (Some (house n)) q refl
    (no_orphan_at street q refl))

house_twice : (n k : ℕ)
    → HasNoOrphan (changed (changed (found_in street) (codes "b") (Some (house n))) (codes "b") (Some (house k)))
house_twice n k = no_orphan _ (λ q. no_orphan_put (changed (found_in street) (codes "b") (Some (house n))) (codes "b")
    (Some (house k)) q refl (no_orphan_put (found_in street) (codes "b") (Some (house n)) q refl
    (no_orphan_at street q refl)))

pub planners_are_serial : AreSerial street planners
planners_are_serial = (
  in_turn refl (omega arith) (refl, refl, (refl, refl)),
  search arith,
  (
    in_turn refl (omega arith) (refl, refl, (refl, refl, (inl (refl, house_there 3), refl))),
    search arith,
    (
      in_turn refl (omega arith) (refl, refl, (refl, refl, (inl (refl, house_twice 3 4), refl))),
      tt,
      tt,
    ),
  ),
)

-- who comes back was told of the storey that he did not expect
pub refusal_is_told : IsTold (city_after street planners 2) ben_again.told
refusal_is_told = (_, (refl, (refl, (refl, refl))))

pub no_storey_is_lost : city_after street planners 3 (codes "b") ≡ Some (house 4)
no_storey_is_lost = refl

-- ---- a mark, and a way back across another's commit

abbrev meadows : Entries
meadows = (codes "x", alone LandUse no_members) ∷ (codes "y", alone LandUse no_members) ∷ []

-- a body with the number n, and a meadow of it
abbrev marked : ℕ → Body
marked n = body LandUse (with (numbered (codes "n") n))

abbrev meadow : ℕ → Object
meadow n = alone LandUse (with (numbered (codes "n") n))

abbrev beside : Grown
beside = record { since = 0; told = (Put (codes "y") (marked 5), Replaced) ∷ [] }

-- it marked before the other one committed, and reads what that left
abbrev back_and_forth : Grown
back_and_forth = record {
  since = 0;
  told = (Mark (codes "m"), Marked)
      ∷ (Put (codes "x") (marked 1), Replaced)
      ∷ (Back (codes "m"), WentBack)
      ∷ (Back (codes "n"), Refused (NoMark (codes "n")))
      ∷ (Read (codes "y"), Found (meadow 5))
      ∷ [];
}

abbrev across : List Closed
across = (beside, true) ∷ (back_and_forth, true) ∷ []

y_there : HasNoOrphan (changed (found_in meadows) (codes "y") (Some (meadow 5)))
y_there = no_orphan _ (λ q. no_orphan_put (found_in meadows) (codes "y") (Some (meadow 5)) q refl
    (no_orphan_at meadows q refl))

pub across_is_serial : AreSerial meadows across
across_is_serial = (
  in_turn refl (omega arith) (refl, refl, (inl (refl, y_there), refl)),
  search arith,
  (
    in_turn refl (omega arith)
        (refl, refl, (refl, refl, (refl, refl, (refl, refl, (inl (refl, y_there), refl))))),
    tt,
    tt,
  ),
)

pub across_is_told : IsTold (city_after meadows across 1) back_and_forth.told
across_is_told = (_, (refl, (refl, (refl, (refl, (refl, refl))))))

pub back_leaves_the_other : city_after meadows across 2 ≡ city_after meadows across 1
back_leaves_the_other = refl

-- ---- a commit refused for an orphan, which is then attached and committed

abbrev building : Entries
building = (codes "b", alone Building no_members) ∷ []

abbrev with_part : CityMap
with_part = changed (found_in building) (codes "p") (Some (alone BuildingPart no_members))

pub orphan_is_refused : Does (unmarked with_part) Commit (Refused (Orphan (codes "p"))) (unmarked with_part)
orphan_is_refused = grind arith

abbrev adds_a_part : Grown
adds_a_part = record {
  since = 0;
  told = (Put (codes "p") (body BuildingPart no_members), Added) ∷ (Attach (codes "p") (codes "b"), Attached) ∷ [];
}

abbrev parts : List Closed
parts = (adds_a_part, true) ∷ []

pub attached_is_serial : AreSerial building parts
attached_is_serial =
    let left = attached with_part (codes "p") (codes "b") in
    let none : HasNoOrphan left = search (arith, no_orphan, no_orphan_attached, orphan_apart, no_orphan_at) in
    (in_turn refl (omega arith) (refl, refl, (refl, refl, (inl (refl, none), refl))), tt, tt)
