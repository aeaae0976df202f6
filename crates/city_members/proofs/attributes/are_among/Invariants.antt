use Rattle.city_members.proofs.Prelude.{◌≡◌, members_view}
use Rattle.city_members.specs.Attributes.{are_among}
use Rattle.city_members.proofs.attributes.are_among.Given as goal

-- the answer for all is the answer for the rest
abbrev pub invariant-loop-name : goal.invariant-loop-name
invariant-loop-name l =
    are_among (members_view l.named.entries) (members_view l.found.entries)
    ≡ are_among (members_view l.name-iterator) (members_view l.found.entries)
