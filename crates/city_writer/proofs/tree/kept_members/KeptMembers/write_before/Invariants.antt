use Rattle.city_writer.proofs.Prelude.{◌≡◌, ◌++◌, members_before, members_from, tokens_of_members, MembersReadBack}
use Rattle.city_members.specs.Members.{members_count}
use Rattle.city_writer.proofs.tree.kept_members.KeptMembers.write_before.Given as goal

abbrev pub invariant-loop-member_name : goal.invariant-loop-member_name
invariant-loop-member_name l =
    (l.out.before ≡ l.initial.out.before)
    × (l.out.tokens ++ tokens_of_members (members_before l.name l.self) ≡ l.initial.out.tokens ++ tokens_of_members
    (members_before l.name l.initial.self))
    × (members_from l.name l.self ≡ members_from l.name l.initial.self)
    × (MembersReadBack l.self → MembersReadBack l.initial.self)

abbrev pub decreases-loop-member_name : goal.decreases-loop-member_name
decreases-loop-member_name l = members_count (members_before l.name l.self)
