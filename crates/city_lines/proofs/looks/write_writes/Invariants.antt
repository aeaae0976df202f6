use Rattle.city_lines.proofs.Prelude.{◌≡◌, ◌++◌}
use Rattle.city_lines.proofs.Written.{closing_seen}
use Rattle.city_lines.proofs.looks.write_writes.Given as goal

-- the rest ends the object
abbrev pub invariant-loop-id : goal.invariant-loop-id
invariant-loop-id l =
    (l.out.before ≡ l.initial.out.before)
    × (l.initial.out.tokens ++ closing_seen l.change ≡ l.out.tokens ++ closing_seen l.id-iterator)
