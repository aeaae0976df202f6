use Rattle.city_lines.proofs.Prelude.{◌≡◌}
use Rattle.city_lines.proofs.error.write_told.Given as goal

-- nothing is written before the member is found
abbrev pub invariant-loop : goal.invariant-loop
invariant-loop l = (l.out.before ≡ l.initial.out.before) × (l.out.tokens ≡ l.initial.out.tokens)
