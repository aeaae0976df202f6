use Rattle.city_model.proofs.Prelude.{◌≡◌, drop, list_any, is_open_shell}
use Rattle.city_model.proofs.shells.any_open.Given as goal

abbrev pub invariant-loop-shell : goal.invariant-loop-shell
invariant-loop-shell l = list_any is_open_shell l.shells ≡ list_any is_open_shell (drop l.shell-index l.shells)
