use Rattle.std.specs.FinMap.{entries}
use Rattle.city_lines.proofs.Prelude.{◌≡◌, ◌++◌}
use Rattle.city_lines.specs.Told.{typed_data}
use Rattle.city_lines.proofs.Written.{closing}
use Rattle.city_lines.proofs.looks.write_types.Given as goal

-- the rest ends the array
abbrev pub invariant-loop-id : goal.invariant-loop-id
invariant-loop-id l =
    (l.out.before ≡ l.initial.out.before)
    × (l.initial.out.tokens ++ closing typed_data (entries l.city.1)
    ≡ l.out.tokens ++ closing typed_data l.id-iterator)
