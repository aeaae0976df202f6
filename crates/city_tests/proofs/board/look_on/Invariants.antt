use Rattle.std.proofs.Common.{◌≡◌}
use Rattle.city_tests.proofs.board.look_on.Given as goal

abbrev pub invariant-loop : goal.invariant-loop
invariant-loop l = l.viewer.name ≡ l.fn.viewer.name
