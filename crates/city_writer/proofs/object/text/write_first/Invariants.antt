use Rattle.city_writer.proofs.Prelude.{◌≡◌, ◌<◌, List, ◌++◌, length, Point, are_kept_objects, with_points}
use Rattle.city_writer.proofs.Prelude.{tokens_of_members}
use Rattle.city_writer.proofs.Prelude.{MembersReadBack}
use Rattle.std.proofs.Common.{◌^◌, take}
use Rattle.city_writer.specs.internal.object.InTurn.{in_turn, entry_points}
use Rattle.city_writer.proofs.object.text.write_first.Given as goal

-- the rest leads to the pool of all, and is written behind the others
abbrev pub invariant-objects : goal.invariant-objects
invariant-objects l =
    let all = take l.initial.count l.initial.left in
    let left = take l.count l.left in
    (with_points l.initial.pool (entry_points all) ≡ with_points l.pool (entry_points left))
    × (l.out.before ≡ l.initial.out.before)
    × ((later : List Point)
    → l.initial.out.tokens ++ tokens_of_members (in_turn (with_points l.pool later) all)
    ≡ l.out.tokens ++ tokens_of_members (in_turn (with_points l.pool later) left))
    × ((pool : List Point) → length pool < 2 ^ 63 → MembersReadBack (in_turn pool left)
    → MembersReadBack (in_turn pool all))
    × (are_kept_objects all ≡ are_kept_objects left)

abbrev pub decreases-objects : goal.decreases-objects
decreases-objects l = l.count
