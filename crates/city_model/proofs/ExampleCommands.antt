-- The refusals of single commands, and a small city after scripts.
use Rattle.city_model.proofs.Prelude.{arith, ◌≡◌, inl, refl, codes, Building, BuildingPart, Bridge, LandUse, Road}
use Rattle.city_model.proofs.Prelude.{Command, Put, Delete, Attach, Detach, Commit, Abort, Read, Mark, Back, Cause}
use Rattle.city_model.proofs.Prelude.{Orphan, NoMark, Added, Deleted, Attached, Detached, WentBack, Refused, Outcome}
use Rattle.city_model.proofs.Prelude.{Entries, found_in, changed, CityMap, attached, Does, IsScriptResult, map_left}
use Rattle.city_model.proofs.Prelude.{Scripted, Trace, IsSerialHistory, HasNoOrphan, Object, End, unmarked}
use Rattle.std.specs.Prelude.{List, [], ◌∷◌, Some, ℕ}
use Rattle.city_model.specs.declared.command.Cause.TheVariants.{NoObject, TypeFixed, HasChildren, WrongFamily}
use Rattle.city_model.specs.declared.command.Cause.TheVariants.{AlreadyAttached, NotAttached}
use Rattle.city_model.specs.declared.command.Reply.TheVariants.{Replaced, Found, Marked}
use Rattle.city_model.proofs.ExampleCities.{one_id, bare, object, alone, numbered, no_orphan, least_orphan}
use Rattle.city_model.proofs.ExampleCities.{no_orphan_at, no_orphan_attached, orphan_apart, no_orphan_detached_below}
use Rattle.city_model.proofs.ExampleCities.{committed, in_turn, no_orphan_put}

-- ---- the causes: a building b with the part p, and a building r

abbrev family : Entries
family =
    (codes "b", object Building [] (one_id (codes "p")))
    ∷ (codes "p", object BuildingPart (one_id (codes "b")) [])
    ∷ (codes "r", alone Building)
    ∷ []

-- the script of this command and Commit is refused at its command by the cause
abbrev IsRefusedBy : Command → Cause → Type 0
IsRefusedBy command cause = IsScriptResult (found_in family) (command ∷ Commit ∷ []) [] (Outcome.Refused 0 cause)

pub type_is_fixed : IsRefusedBy (Put (codes "b") (bare Bridge)) (TypeFixed (codes "b"))
type_is_fixed = (refl, (refl, refl))

pub parent_is_not_deleted : IsRefusedBy (Delete (codes "b")) (HasChildren (codes "b"))
parent_is_not_deleted = (refl, (refl, refl))

pub first_level_object_has_no_parent : IsRefusedBy (Attach (codes "b") (codes "b")) WrongFamily
first_level_object_has_no_parent = (refl, (refl, refl))

pub no_object_is_its_own_parent : IsRefusedBy (Attach (codes "p") (codes "p")) WrongFamily
no_object_is_its_own_parent = (refl, (refl, refl))

pub no_parent_twice : IsRefusedBy (Attach (codes "p") (codes "b")) AlreadyAttached
no_parent_twice = (refl, (refl, refl))

pub only_a_parent_is_detached : IsRefusedBy (Detach (codes "p") (codes "r")) NotAttached
only_a_parent_is_detached = (refl, (refl, refl))

pub nothing_to_delete : IsRefusedBy (Delete (codes "z")) (NoObject (codes "z"))
nothing_to_delete = (refl, (refl, refl))

pub no_such_parent : IsRefusedBy (Attach (codes "p") (codes "z")) (NoObject (codes "z"))
no_such_parent = (refl, (refl, refl))

-- a part without its only parent is an orphan at the end
abbrev detach_only : List Command
detach_only = Detach (codes "p") (codes "b") ∷ Commit ∷ []

pub detached_part_is_an_orphan : IsScriptResult (found_in family) detach_only (Detached ∷ [])
    (Outcome.Refused 1 (Orphan (codes "p")))
detached_part_is_an_orphan = search (arith, no_orphan_detached_below, no_orphan_at, least_orphan, object)

-- and a refused script leaves the city as it was
pub refused_script_leaves_the_map : map_left (found_in family) detach_only (Outcome.Refused 1 (Orphan (codes "p")))
    ≡ found_in family
refused_script_leaves_the_map = refl

-- ---- a new part of a building b

abbrev building : Entries
building = (codes "b", alone Building) ∷ []

abbrev put_part : List Command
put_part = Put (codes "p") (bare BuildingPart) ∷ Commit ∷ []

pub new_part_is_an_orphan : IsScriptResult (found_in building) put_part (Added ∷ [])
    (Outcome.Refused 1 (Orphan (codes "p")))
new_part_is_an_orphan = grind arith

pub orphan_leaves_the_map : map_left (found_in building) put_part (Outcome.Refused 1 (Orphan (codes "p")))
    ≡ found_in building
orphan_leaves_the_map = refl

abbrev put_and_attach_part : List Command
put_and_attach_part = Put (codes "p") (bare BuildingPart) ∷ Attach (codes "p") (codes "b") ∷ Commit ∷ []

pub attached_part_is_committed : IsScriptResult (found_in building) put_and_attach_part (Added ∷ Attached ∷ [])
    Outcome.Committed
attached_part_is_committed =
    let put = changed (found_in building) (codes "p") (Some (alone BuildingPart)) in
    let left = attached put (codes "p") (codes "b") in
    let none : HasNoOrphan left = search (arith, no_orphan, no_orphan_attached, orphan_apart, alone, no_orphan_at) in
    (refl, refl, (refl, refl, (inl (refl, none), refl)))

-- ---- a script with an abort

abbrev meadow : Entries
meadow = (codes "x", alone LandUse) ∷ []

abbrev give_up : List Command
give_up = Put (codes "x") (numbered 1) ∷ Put (codes "x") (numbered 2) ∷ Delete (codes "x") ∷ Put (codes "x")
    (numbered 3) ∷ Abort ∷ []

pub abort_answers_as_if_it_stayed : IsScriptResult (found_in meadow) give_up
    (Replaced ∷ Replaced ∷ Deleted ∷ Added ∷ []) Outcome.Aborted
abort_answers_as_if_it_stayed = (refl, refl, (refl, refl, (refl, refl, (refl, refl, (refl, refl)))))

pub abort_leaves_the_map : map_left (found_in meadow) give_up Outcome.Aborted ≡ found_in meadow
abort_leaves_the_map = refl

-- ---- marks and going back in scripts over a small city: the replies, and the city after them

-- the meadow's object with this number
abbrev with_number : ℕ → Object
with_number n = record { body = numbered n; parents = []; children = [] }

abbrev put_number : ℕ → Command
put_number n = Put (codes "x") (numbered n)

-- ---- going back undoes the writes since the mark

abbrev goes_back : List Command
goes_back = Mark (codes "m") ∷ put_number 1 ∷ Back (codes "m") ∷ Commit ∷ []

pub back_takes_the_put_back : IsScriptResult (found_in meadow) goes_back (Marked ∷ Replaced ∷ WentBack ∷ [])
    Outcome.Committed
back_takes_the_put_back = grind arith

pub back_leaves_the_marked_map : map_left (found_in meadow) goes_back Outcome.Committed ≡ found_in meadow
back_leaves_the_marked_map = refl

-- ---- the newest of two marks of one name counts, and it stays

abbrev marks_twice : List Command
marks_twice =
    put_number 1 ∷ Mark (codes "m") ∷ put_number 2 ∷ Mark (codes "m") ∷ put_number 3 ∷ Back (codes "m") ∷ Back
    (codes "m") ∷ Commit ∷ []

abbrev second_number : CityMap
second_number =
    changed (changed (found_in meadow) (codes "x") (Some (with_number 1))) (codes "x") (Some (with_number 2))

second_number_no_orphan : HasNoOrphan second_number
second_number_no_orphan = search (arith, no_orphan, no_orphan_put, no_orphan_at)

pub newest_mark_counts : IsScriptResult (found_in meadow) marks_twice
    (Replaced ∷ Marked ∷ Replaced ∷ Marked ∷ Replaced ∷ WentBack ∷ WentBack ∷ []) Outcome.Committed
newest_mark_counts = search (arith, second_number_no_orphan)

pub newest_mark_is_left : map_left (found_in meadow) marks_twice Outcome.Committed (codes "x") ≡ Some (with_number 2)
newest_mark_is_left = refl

-- ---- going back drops the newer marks

abbrev goes_behind : List Command
goes_behind =
    Mark (codes "a") ∷ Put (codes "g") (bare Road) ∷ Mark (codes "b") ∷ Back (codes "a") ∷ Back (codes "b") ∷ Commit
    ∷ []

pub newer_mark_is_gone : IsScriptResult (found_in meadow) goes_behind (Marked ∷ Added ∷ Marked ∷ WentBack ∷ [])
    (Outcome.Refused 4 (NoMark (codes "b")))
newer_mark_is_gone = (refl, refl, (refl, refl, (refl, refl, (refl, refl, (refl, (refl, refl))))))

pub refused_back_leaves_the_map : map_left (found_in meadow) goes_behind (Outcome.Refused 4 (NoMark (codes "b")))
    ≡ found_in meadow
refused_back_leaves_the_map = refl

-- a mark inside another: both are there, and going back to the inner one leaves the outer one
pub inner_mark_is_found : Trace (unmarked (found_in meadow))
    (Mark (codes "a") ∷ Mark (codes "b") ∷ put_number 1 ∷ Back (codes "b") ∷ [])
    (Marked ∷ Marked ∷ Replaced ∷ WentBack ∷ [])
    (record { map = found_in meadow; marks = (codes "b", found_in meadow) ∷ (codes "a", found_in meadow) ∷ [] })
inner_mark_is_found = (refl, (refl, (refl, (refl, refl))))

pub outer_mark_is_left : Trace (unmarked (found_in meadow))
    (Mark (codes "a") ∷ Mark (codes "b") ∷ put_number 1 ∷ Back (codes "a") ∷ [])
    (Marked ∷ Marked ∷ Replaced ∷ WentBack ∷ [])
    (record { map = found_in meadow; marks = (codes "a", found_in meadow) ∷ [] })
outer_mark_is_left = (refl, (refl, (refl, (refl, refl))))

-- ---- without its mark

pub no_mark_is_a_refusal : (m : CityMap)
    → Does (unmarked m) (Back (codes "m")) (Refused (NoMark (codes "m"))) (unmarked m)
no_mark_is_a_refusal m = (refl, refl)

-- ---- an object deleted and put again is the first one after going back

abbrev puts_again : List Command
puts_again =
    Mark (codes "m") ∷ Delete (codes "x") ∷ Put (codes "x") (bare Road) ∷ Back (codes "m") ∷ Read (codes "x") ∷ Abort
    ∷ []

pub deleted_object_is_back : IsScriptResult (found_in meadow) puts_again
    (Marked ∷ Deleted ∷ Added ∷ WentBack ∷ Found (alone LandUse) ∷ []) Outcome.Aborted
deleted_object_is_back = (refl, refl, (refl, refl, (refl, refl, (refl, refl, (refl, refl, (refl, refl))))))

-- ---- marks end with the script

abbrev two_scripts : List Scripted
two_scripts = (codes "a", Mark (codes "m") ∷ Commit ∷ []) ∷ (codes "b", Back (codes "m") ∷ Commit ∷ []) ∷ []

abbrev mark_then_back : List End
mark_then_back =
    committed 0 (codes "a") 0 (Marked ∷ [])
    ∷ record { script = 1; name = codes "b"; since = 1; replies = []; outcome = Outcome.Refused 0 (NoMark (codes "m")) }
    ∷ []

pub marks_end_with_the_script : IsSerialHistory two_scripts (found_in meadow) mark_then_back
marks_end_with_the_script = (
  in_turn refl (omega arith) (search (arith, no_orphan, no_orphan_at)),
  search arith,
  (in_turn refl (omega arith) (search arith), tt, tt),
)
