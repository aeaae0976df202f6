use Rattle.std.proofs.Common.{◌≡◌, ◌++◌, drop}
use Rattle.city_journal.specs.Sums.{hex_text}
use Rattle.city_journal.proofs.line_sum.push_hex.Given as goal

abbrev pub invariant-loop-byte : goal.invariant-loop-byte
invariant-loop-byte l = l.initial.out.items ++ hex_text l.bytes ≡ l.out.items ++ hex_text (drop l.byte-index l.bytes)
