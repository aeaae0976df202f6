use Rattle.city_details.proofs.Prelude.{◌≡◌, map, view, object, items_of, items_have_float, false}
use Rattle.city_details.proofs.details.object_values.Given as goal

abbrev pub invariant-loop-item : goal.invariant-loop-item
invariant-loop-item l =
    (map view l.values.items ≡ map object l.yielded) × (items_have_float (items_of (map view l.values.items)) ≡ false)
