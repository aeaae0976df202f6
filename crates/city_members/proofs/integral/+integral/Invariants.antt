use Rattle.city_members.proofs.Prelude.{◌≡◌, drop, items_view, members_view, members_integral}
use Rattle.city_members.specs.Integral.{items_integral}
use Rattle.city_members.proofs.integral.+integral.Given as goal

-- the answer for all is the answer for the rest
abbrev pub invariant-are_integral-loop-item : goal.invariant-are_integral-loop-item
invariant-are_integral-loop-item l =
    items_integral (items_view l.items.items) ≡ items_integral (items_view (drop l.item-index l.items.items))

abbrev pub invariant-have_integral-loop-name : goal.invariant-have_integral-loop-name
invariant-have_integral-loop-name l =
    members_integral (members_view l.members.entries) ≡ members_integral (members_view l.name-iterator)
