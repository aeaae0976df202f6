-- Scripts run one after another over small cities: their replies, and the cities after them. First a part with two
-- parents, detached from one of them and then deleted.
use Rattle.city_model.proofs.Prelude.{◌≡◌, take, inl, refl, arith, codes, Building, BuildingPart, Road, Put, Delete}
use Rattle.city_model.proofs.Prelude.{Attach, Detach, Commit, Read, Added, Deleted, Attached, Detached, End, Entries}
use Rattle.city_model.proofs.Prelude.{CityMap, found_in, changed, has_id, attached, detached, Scripted, model_after}
use Rattle.city_model.proofs.Prelude.{IsSerialHistory, is_orphan_there, or_parts}
use Rattle.city_model.proofs.ExampleCities.{no_orphan_attached, one_id, bare, object, alone, committed, in_turn}
use Rattle.city_model.proofs.ExampleCities.{no_orphan, no_orphan_detached, no_orphan_deleted, orphan_apart}
use Rattle.city_model.proofs.ExampleCities.{no_orphan_at}
use Rattle.std.specs.Prelude.{ℕ, List, [], ◌∷◌, false, Some, None}
use Rattle.city_model.specs.declared.command.Reply.TheVariants.{Absent}
use Rattle.std.proofs.lemmas.Map.{update_other}
use Rattle.city_model.proofs.Changed.{at_absent, attached_apart, deleted_apart}
use Rattle.city_members.proofs.Ids.{same_id_back}

abbrev buildings : Entries
buildings = (codes "b", alone Building) ∷ (codes "r", alone Building) ∷ []

abbrev scripts : List Scripted
scripts = (
  codes "a",
  Put (codes "p") (bare BuildingPart) ∷ Attach (codes "p") (codes "b") ∷ Attach (codes "p") (codes "r")
      ∷ Commit ∷ [],
)
    ∷ (codes "b", Detach (codes "p") (codes "b") ∷ Commit ∷ [])
    ∷ (codes "c", Delete (codes "p") ∷ Commit ∷ [])
    ∷ []

abbrev ends : List End
ends =
    committed 0 (codes "a") 0 (Added ∷ Attached ∷ Attached ∷ [])
    ∷ committed 1 (codes "b") 1 (Detached ∷ [])
    ∷ committed 2 (codes "c") 2 (Deleted ∷ [])
    ∷ []

abbrev with_part : CityMap
with_part = changed (found_in buildings) (codes "p") (Some (alone BuildingPart))

abbrev two_parents : CityMap
two_parents = attached (attached with_part (codes "p") (codes "b")) (codes "p") (codes "r")

abbrev other_parent : CityMap
other_parent = detached two_parents (codes "p") (codes "b")

two_parents_no_orphan : (q : List ℕ) → is_orphan_there (two_parents q) ≡ false
two_parents_no_orphan q = grind arith

other_parent_no_orphan : (q : List ℕ) → is_orphan_there (other_parent q) ≡ false
other_parent_no_orphan q = no_orphan_detached two_parents (codes "p") (codes "b") q refl refl (two_parents_no_orphan q)

pub three_scripts_in_turn_fit : IsSerialHistory scripts (found_in buildings) ends
three_scripts_in_turn_fit = (
  in_turn refl (omega arith) (grind (arith, no_orphan two_parents two_parents_no_orphan)),
  search arith,
  (
    in_turn refl (omega arith) (refl, refl, (inl (refl, no_orphan other_parent other_parent_no_orphan), refl)),
    search arith,
    (
      in_turn refl (omega arith) (
        refl,
        refl,
        (
          inl (
            refl,
            no_orphan _ (λ q. no_orphan_deleted other_parent (codes "p") q
                (other_parent_no_orphan q)),
          ),
          refl,
        ),
      ),
      tt,
      tt,
    ),
  ),
)

-- ---- after the second script

abbrev after_two : CityMap
after_two = model_after scripts (found_in buildings) (take 2 ends)

pub detached_part_keeps_its_other_parent : after_two (codes "p") ≡ Some (object BuildingPart (one_id (codes "r")) [])
detached_part_keeps_its_other_parent = refl

pub detached_parent_has_no_children : after_two (codes "b") ≡ Some (alone Building)
detached_parent_has_no_children = refl

pub other_parent_keeps_the_part : after_two (codes "r") ≡ Some (object Building [] (one_id (codes "p")))
other_parent_keeps_the_part = refl

-- ---- after the third

abbrev after_three : CityMap
after_three = model_after scripts (found_in buildings) ends

pub deleted_part_is_gone : after_three (codes "p") ≡ None
deleted_part_is_gone = refl

pub first_building_is_alone_again : after_three (codes "b") ≡ Some (alone Building)
first_building_is_alone_again = refl

pub second_building_is_alone_again : after_three (codes "r") ≡ Some (alone Building)
second_building_is_alone_again = refl

-- ---- a part of two buildings is deleted, while another part is put and attached to one of them

abbrev two_buildings : Entries
two_buildings =
    (codes "b1", object Building [] (one_id (codes "p")))
    ∷ (codes "b2", object Building [] (one_id (codes "p")))
    ∷ (codes "p", object BuildingPart (codes "b1" ∷ codes "b2" ∷ []) [])
    ∷ []

abbrev delete_and_attach : List Scripted
delete_and_attach =
    (codes "a", Delete (codes "p") ∷ Commit ∷ [])
    ∷ (codes "b", Put (codes "q") (bare BuildingPart) ∷ Attach (codes "q") (codes "b2") ∷ Commit ∷ [])
    ∷ []

-- the second script ends first
abbrev attach_then_delete : List End
attach_then_delete = committed 1 (codes "b") 0 (Added ∷ Attached ∷ []) ∷ committed 0 (codes "a") 0 (Deleted ∷ []) ∷ []

abbrev both_parts : CityMap
both_parts =
    attached (changed (found_in two_buildings) (codes "q") (Some (alone BuildingPart))) (codes "q") (codes "b2")

both_parts_no_orphan : (q : List ℕ) → is_orphan_there (both_parts q) ≡ false
both_parts_no_orphan q = search (arith, no_orphan_attached, orphan_apart, alone, no_orphan_at)

-- these are the ends of the scripts, run one at a time
pub attach_then_delete_fits : IsSerialHistory delete_and_attach (found_in two_buildings) attach_then_delete
attach_then_delete_fits = (
  in_turn refl (omega arith) (refl, refl, (refl, refl, (inl (refl, no_orphan both_parts both_parts_no_orphan), refl))),
  search arith,
  (
    in_turn refl (omega arith) (
      refl,
      refl,
      (
        inl (
          refl,
          no_orphan _ (λ q. no_orphan_deleted both_parts (codes "p") q
              (both_parts_no_orphan q)),
        ),
        refl,
      ),
    ),
    tt,
    tt,
  ),
)

abbrev left : CityMap
left = model_after delete_and_attach (found_in two_buildings) attach_then_delete

-- the deleted part is gone from both of its parents, and the attached part stays
pub delete_takes_the_child_out_of_the_first_parent : left (codes "b1") ≡ Some (alone Building)
delete_takes_the_child_out_of_the_first_parent = refl

pub delete_takes_the_child_out_of_the_second_parent : left (codes "b2") ≡ Some (object Building [] (one_id (codes "q")))
delete_takes_the_child_out_of_the_second_parent = refl

pub delete_takes_the_object : left (codes "p") ≡ None
delete_takes_the_object = refl

pub attached_sibling_stays : left (codes "q") ≡ Some (object BuildingPart (one_id (codes "b2")) [])
attached_sibling_stays = refl

pub no_other_object_comes : (id : List ℕ) → has_id (codes "b1" ∷ codes "b2" ∷ codes "p" ∷ codes "q" ∷ []) id ≡ false
    → left id ≡ None
no_other_object_comes id h =
    search (arith, or_parts, at_absent, update_other, alone, same_id_back, attached_apart, deleted_apart)

-- ---- an object read twice, and put by another script after it

abbrev no_objects : Entries
no_objects = []

abbrev read_and_put : List Scripted
read_and_put =
    (codes "a", Read (codes "h") ∷ Read (codes "h") ∷ Commit ∷ [])
    ∷ (codes "b", Put (codes "h") (bare Road) ∷ Commit ∷ [])
    ∷ []

-- the second script began its last attempt after the first one's end
abbrev read_then_put : List End
read_then_put = committed 0 (codes "a") 0 (Absent ∷ Absent ∷ []) ∷ committed 1 (codes "b") 1 (Added ∷ []) ∷ []

pub read_then_put_fits : IsSerialHistory read_and_put (found_in no_objects) read_then_put
read_then_put_fits =
    (in_turn refl (omega arith) (grind arith), search arith, (in_turn refl (omega arith) (grind arith), tt, tt))

pub put_road_is_there : model_after read_and_put (found_in no_objects) read_then_put (codes "h") ≡ Some (alone Road)
put_road_is_there = refl
