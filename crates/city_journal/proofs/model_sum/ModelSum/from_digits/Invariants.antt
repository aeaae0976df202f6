use Rattle.std.proofs.Common.{◌≡◌, ◌*◌, length, take}
use Rattle.city_journal.specs.Sums.{hex_text}
use Rattle.city_journal.proofs.model_sum.ModelSum.from_digits.Given as goal

abbrev pub invariant-loop-i : goal.invariant-loop-i
invariant-loop-i l = (length l.bytes ≡ 32) × (take (2 * l.i) l.digits ≡ hex_text (take l.i l.bytes))
