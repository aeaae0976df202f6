use Rattle.city_scripts.proofs.Prelude.{◌≡◌, drop, map, view, first_at, index_if, first_in}
use Rattle.city_scripts.proofs.faults.first_in.Given as goal

abbrev pub invariant-loop-i : goal.invariant-loop-i
invariant-loop-i g l =
    first_in (g.J.CommandTest.test) l.vertices (map view l.commands)
    ≡ first_at (index_if (g.J.CommandTest.test l.vertices)) l.i (map view (drop l.i l.commands))
