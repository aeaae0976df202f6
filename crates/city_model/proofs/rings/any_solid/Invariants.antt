use Rattle.city_model.proofs.Prelude.{◌≡◌, drop, list_any, is_faulty}
use Rattle.city_model.proofs.rings.any_solid.Given as goal

abbrev pub invariant-loop-solid : goal.invariant-loop-solid
invariant-loop-solid l =
    list_any (list_any (list_any (is_faulty l.fault))) l.solids
    ≡ list_any (list_any (list_any (is_faulty l.fault))) (drop l.solid-index l.solids)
