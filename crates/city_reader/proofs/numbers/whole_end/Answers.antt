use Rattle.std.proofs.Common.{◌≡◌, ◌≤◌, length, drop, true, Some, sym, ap, ◌∙◌, arith}
use Rattle.json.specs.Word.{ends_word, after_minus, after_whole}
use Rattle.city_reader.proofs.WholeNumbers.{number_whole}
use Rattle.city_reader.proofs.numbers.whole_end.Goals as goal

pub returns-then-is_delimiter : goal.returns-then-is_delimiter
returns-then-is_delimiter c =
    let d = c.args.text.now in
    let end = c.in_ok-end in
    let parts : (Some (drop end.end d) ≡ after_whole (drop c.minus_end.result d))
    × ((c.minus_end.result ≤ end.end) × (end.end ≤ length d)) =
    end.ensures in
    let whole : after_whole (after_minus (drop c.args.from d)) ≡ Some (drop end.end d) =
    ap after_whole (sym c.minus_end.ensures.value) ∙ sym parts.0 in
    let ended : ends_word (drop end.end d) ≡ true = grind (arith, c.byte_at.ensures.head, c.is_delimiter.ensures) in
    (omega (arith, c.minus_end.ensures.bounds.0, parts.1.0), parts.1.1, number_whole _ _ whole ended, ended)
