use Rattle.city_lines.proofs.Prelude.{◌≡◌, ◌++◌, drop}
use Rattle.city_lines.proofs.Written.{closing_seen}
use Rattle.city_lines.proofs.looks.write_found_objects.Given as goal

-- the rest ends the object
abbrev pub invariant-loop-id : goal.invariant-loop-id
invariant-loop-id l =
    (l.out.before ≡ l.initial.out.before)
    × (l.initial.out.tokens ++ closing_seen l.found ≡ l.out.tokens ++ closing_seen (drop l.id-index l.found))
