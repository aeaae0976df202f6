use Rattle.city_members.proofs.Prelude.{◌≡◌, members_view}
use Rattle.city_members.specs.Attributes.{put_each}
use Rattle.city_members.specs.internal.KeptValues.{members_built}
use Rattle.city_members.proofs.kept.few_members.FewMembers.with_each.Given as goal

-- the members so far, with the rest put
abbrev pub invariant-loop-name : goal.invariant-loop-name
invariant-loop-name l =
    put_each (members_view l.fn.named.entries) l.fn.self
    ≡ put_each (members_view l.name-iterator) (members_built l.built)
