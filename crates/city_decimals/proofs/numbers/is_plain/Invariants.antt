use Rattle.city_decimals.proofs.Prelude.{◌<◌, ◌≤◌, ℕ, get_or}
use Rattle.city_decimals.proofs.numbers.is_plain.Given as goal

abbrev pub invariant-loop-byte : goal.invariant-loop-byte
invariant-loop-byte l = (i : ℕ) → i < l.byte-index → (48 ≤ get_or l.bytes i 0) × (get_or l.bytes i 0 ≤ 57)
