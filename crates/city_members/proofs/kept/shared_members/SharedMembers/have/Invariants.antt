use Rattle.city_members.proofs.Prelude.{◌≡◌, members_view}
use Rattle.city_members.specs.Attributes.{are_among}
use Rattle.city_members.proofs.kept.shared_members.SharedMembers.have.Given as goal

-- the answer for all is the answer for the rest
abbrev pub invariant-loop-name : goal.invariant-loop-name
invariant-loop-name l = are_among (members_view l.named.entries) l.self ≡ are_among (members_view l.name-iterator) l.self
