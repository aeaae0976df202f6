use Rattle.city_model.proofs.Prelude.{◌≡◌, drop, list_any, is_open_shell}
use Rattle.city_model.proofs.shells.any_open_in.Given as goal

abbrev pub invariant-loop-solid : goal.invariant-loop-solid
invariant-loop-solid l =
    list_any (list_any is_open_shell) l.solids ≡ list_any (list_any is_open_shell) (drop l.solid-index l.solids)
