use Rattle.city_lines.proofs.Prelude.{◌≡◌, ◌++◌, ◌∷◌, [], drop, flat_map, end_object, member_tokens, IsObjectOf}
use Rattle.city_lines.proofs.members.is_object_of.Given as goal

-- if what is left has the members that are left, the whole has all
abbrev pub invariant-loop-member : goal.invariant-loop-member
invariant-loop-member l =
    l.reader ≡ flat_map member_tokens (drop l.member-index l.members) ++ end_object ∷ []
    → IsObjectOf l.text l.members
