use Rattle.city_members.proofs.Prelude.{◌≡◌, drop, items_view}
use Rattle.city_members.specs.Kept.{any_located}
use Rattle.city_members.proofs.kept.site.any_located.Given as goal

abbrev pub invariant-loop-item : goal.invariant-loop-item
invariant-loop-item l =
    any_located (items_view l.items.items) ≡ any_located (items_view (drop l.item-index l.items.items))
