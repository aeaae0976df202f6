use Rattle.city_writer.proofs.Prelude.{◌≡◌, ◌++◌, tokens_of_members, MembersReadBack}
use Rattle.city_members.specs.Members.{members_count}
use Rattle.city_writer.proofs.tree.kept_members.KeptMembers.write_last.Given as goal

abbrev pub invariant-loop-name : goal.invariant-loop-name
invariant-loop-name l =
    (l.out.before ≡ l.initial.out.before)
    × (l.out.tokens ++ tokens_of_members l.self ≡ l.initial.out.tokens ++ tokens_of_members l.initial.self)
    × (MembersReadBack l.self → MembersReadBack l.initial.self)

abbrev pub decreases-loop-name : goal.decreases-loop-name
decreases-loop-name l = members_count l.self
