use Rattle.city_members.proofs.Prelude.{◌≡◌, drop}
use Rattle.city_members.specs.Members.{without_each}
use Rattle.city_members.proofs.kept.shared_members.SharedMembers.without_each.Given as goal

-- the members so far, with the rest taken out
abbrev pub invariant-loop-name : goal.invariant-loop-name
invariant-loop-name l =
    without_each l.fn.names l.fn.self ≡ without_each (drop l.name-index l.names) l.members
