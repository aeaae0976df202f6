use Rattle.city_model.proofs.Prelude.{◌≡◌, drop, list_any, is_faulty}
use Rattle.city_model.proofs.rings.any_surface.Given as goal

abbrev pub invariant-loop-surface : goal.invariant-loop-surface
invariant-loop-surface l =
    list_any (is_faulty l.fault) l.surfaces ≡ list_any (is_faulty l.fault) (drop l.surface-index l.surfaces)
