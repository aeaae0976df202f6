use Rattle.city_scripts.proofs.Prelude.{◌≡◌, drop, parts_views, first_at, index_in, first_command}
use Rattle.city_scripts.proofs.faults.first_command.Given as goal

abbrev pub invariant-loop-n : goal.invariant-loop-n
invariant-loop-n g l =
    first_command (g.J.CommandTest.test) (parts_views l.forms) ≡ first_at (index_in (g.J.CommandTest.test)) l.n
    (parts_views (drop l.n l.forms))
