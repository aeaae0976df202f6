use Rattle.city_model.proofs.Prelude.{◌≡◌, drop, list_any, is_faulty}
use Rattle.city_model.proofs.rings.any_shell.Given as goal

abbrev pub invariant-loop-shell : goal.invariant-loop-shell
invariant-loop-shell l =
    list_any (list_any (is_faulty l.fault)) l.shells
    ≡ list_any (list_any (is_faulty l.fault)) (drop l.shell-index l.shells)
