use Rattle.city_lines.proofs.Prelude.{◌≡◌, ◌++◌, drop}
use Rattle.serde_json.specs.Data.{string as text}
use Rattle.std.specs.Arc.{arc_value}
use Rattle.city_lines.proofs.Written.{closing}
use Rattle.city_lines.proofs.ends.write_names.Given as goal

-- the rest ends the array
abbrev pub invariant-loop-name : goal.invariant-loop-name
invariant-loop-name l =
    (l.out.before ≡ l.initial.out.before)
    × (l.initial.out.tokens ++ closing (λ name. text (arc_value name)) l.names
    ≡ l.out.tokens ++ closing (λ name. text (arc_value name)) (drop l.name-index l.names))
