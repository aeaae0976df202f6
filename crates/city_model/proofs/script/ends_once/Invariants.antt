use Rattle.city_model.proofs.Prelude.{◌≡◌, drop, ends_once}
use Rattle.city_model.proofs.script.ends_once.Given as goal

abbrev pub invariant-loop-i : goal.invariant-loop-i
invariant-loop-i l = ends_once l.commands ≡ ends_once (drop l.i l.commands)
