use Rattle.city_program.proofs.Prelude.{◌≡◌, ◌++◌, drop, seen_text}
use Rattle.std.specs.Prelude.{string_bytes}
use Rattle.city_program.specs.SeenTexts.{numbers_text}
use Rattle.city_program.proofs.seen_line.seen_line.Given as goal

abbrev pub invariant-loop-number : goal.invariant-loop-number
invariant-loop-number l =
    seen_text l.fn.viewer l.seen ≡ string_bytes l.line ++ numbers_text (drop l.number-index l.seen)
