-- Lawful cities, and cities with a broken rule in their relations.
use Rattle.city_model.proofs.Prelude.{arith, ◌≡◌, refl, sym, codes, false≢true, Building, BuildingPart, Bridge, Command}
use Rattle.city_model.proofs.Prelude.{Put, Attach, Commit, Added, Attached, Outcome, Entries, CityMap, found_in}
use Rattle.city_model.proofs.Prelude.{changed, attached, is_orphan_there, IsSound, IsLawful, IsScriptResult, map_left}
use Rattle.std.specs.Prelude.{ℕ, List, [], ◌∷◌, false, Some}
use Rattle.city_model.specs.declared.object_type.ObjectType.TheVariants.{BuildingRoom}
use Rattle.city_model.proofs.ExampleCities.{one_id, bare, object, alone, no_orphan}
use Rattle.city_model.proofs.Lawful.{lawful_when_committed}

-- ---- lawful

abbrev no_objects : Entries
no_objects = []

pub empty_city_is_lawful : IsLawful (found_in no_objects)
empty_city_is_lawful = (λ id o is. cc, λ id o is. cc)

-- a building with a part, and a room in the part
abbrev builds : List Command
builds =
    Put (codes "b") (bare Building)
    ∷ Put (codes "p") (bare BuildingPart)
    ∷ Attach (codes "p") (codes "b")
    ∷ Put (codes "r") (bare BuildingRoom)
    ∷ Attach (codes "r") (codes "p")
    ∷ Commit
    ∷ []

abbrev whole : CityMap
whole =
    let b = changed (found_in no_objects) (codes "b") (Some (alone Building)) in
    let with_part = attached (changed b (codes "p") (Some (alone BuildingPart))) (codes "p") (codes "b") in
    attached (changed with_part (codes "r") (Some (alone BuildingRoom))) (codes "r") (codes "p")

whole_no_orphan : (q : List ℕ) → is_orphan_there (whole q) ≡ false
whole_no_orphan q = grind arith

builds_commits : IsScriptResult (found_in no_objects) builds (Added ∷ Added ∷ Attached ∷ Added ∷ Attached ∷ [])
    Outcome.Committed
builds_commits = grind (arith, no_orphan whole whole_no_orphan)

pub building_with_part_and_room_is_lawful : IsLawful (map_left (found_in no_objects) builds Outcome.Committed)
building_with_part_and_room_is_lawful =
    lawful_when_committed (found_in no_objects) builds (Added ∷ Added ∷ Attached ∷ Added ∷ Attached ∷ [])
    empty_city_is_lawful.0 builds_commits

pub part_has_a_parent_and_a_child : map_left (found_in no_objects) builds Outcome.Committed (codes "p")
    ≡ Some (object BuildingPart (one_id (codes "b")) (one_id (codes "r")))
part_has_a_parent_and_a_child = refl

-- ---- not sound

pub parent_has_to_know_its_child : IsSound
    (found_in ((codes "b", alone Building) ∷ (codes "p", object BuildingPart (one_id (codes "b")) []) ∷ [])) → ⊥
parent_has_to_know_its_child s = false≢true ((s (codes "p") _ refl).0.parents_know_it (codes "b") refl).1

pub child_has_to_know_its_parent : IsSound
    (found_in ((codes "b", object Building [] (one_id (codes "p"))) ∷ (codes "p", alone BuildingPart) ∷ [])) → ⊥
child_has_to_know_its_parent s = false≢true ((s (codes "b") _ refl).0.children_know_it (codes "p") refl)

pub child_has_to_be_there : IsSound (found_in ((codes "b", object Building [] (one_id (codes "p"))) ∷ [])) → ⊥
child_has_to_be_there s = false≢true ((s (codes "b") _ refl).0.children_know_it (codes "p") refl)

abbrev other_family : Entries
other_family =
    (codes "p", object BuildingPart (one_id (codes "r")) []) ∷ (codes "r", object Bridge [] (one_id (codes "p"))) ∷ []

pub parent_has_to_be_of_the_family : IsSound (found_in other_family) → ⊥
parent_has_to_be_of_the_family s = false≢true ((s (codes "p") _ refl).0.one_family (codes "r") _ refl refl)

abbrev first_level_child : Entries
first_level_child =
    (codes "b", object Building [] (one_id (codes "c"))) ∷ (codes "c", object Building (one_id (codes "b")) []) ∷ []

pub first_level_object_may_have_no_parent : IsSound (found_in first_level_child) → ⊥
first_level_object_may_have_no_parent s =
    let none : one_id (codes "b") ≡ [] = (s (codes "c") _ refl).0.first_level refl in cc

pub no_object_may_be_its_own_parent : IsSound
    (found_in ((codes "p", object BuildingPart (one_id (codes "p")) (one_id (codes "p"))) ∷ [])) → ⊥
no_object_may_be_its_own_parent s = false≢true (sym ((s (codes "p") _ refl).0.parents_know_it (codes "p") refl).0)

abbrev same_parent_twice : Entries
same_parent_twice =
    (codes "b", object Building [] (one_id (codes "p")))
    ∷ (codes "p", object BuildingPart (codes "b" ∷ codes "b" ∷ []) []) ∷ []

pub parent_may_not_be_named_twice : IsSound (found_in same_parent_twice) → ⊥
parent_may_not_be_named_twice s = false≢true (sym (s (codes "p") _ refl).0.parents_once.0)

pub part_alone_is_not_lawful : IsLawful (found_in ((codes "p", alone BuildingPart) ∷ [])) → ⊥
part_alone_is_not_lawful l = false≢true (sym (l.1 (codes "p") _ refl))
