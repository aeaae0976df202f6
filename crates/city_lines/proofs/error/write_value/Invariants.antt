use Rattle.city_lines.proofs.Prelude.{◌≡◌}
use Rattle.city_lines.specs.Errors.{TellsMore}
use Rattle.city_lines.proofs.error.write_value.Given as goal

abbrev pub invariant-loop : goal.invariant-loop
invariant-loop l = (l.out.before ≡ l.initial.out.before) × TellsMore l.initial.out.tokens l.out.tokens
