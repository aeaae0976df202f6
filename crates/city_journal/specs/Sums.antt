-- Sums, and their digits.
use Rattle.std.specs.Prelude.{◌≡◌, ◌<◌, ℕ, ◌/◌, ◌%◌, List, [], ◌∷◌, flat_map, get_or, length}
use Rattle.std.specs.Char.{digit_char}
use Rattle.std.specs.Hash.DefaultHasher.{finish, initial, write}
use Rattle.std.specs.Int.{to_be_bytes, w64}

-- the two hexadecimal digits of a byte, in lower case
abbrev pub hex_byte : ℕ → List ℕ
hex_byte b = digit_char (b / 16) ∷ digit_char (b % 16) ∷ []

-- the hexadecimal digits of bytes
abbrev pub hex_text : List ℕ → List ℕ
hex_text bytes = flat_map hex_byte bytes

-- the bytes of a SHA-256
abbrev pub IsSum : List ℕ → Type 0
IsSum sum = (length sum ≡ 32) × ((k : ℕ) → get_or sum k 0 < 256)

-- SipHash-1-3 with the keys 0, of the bytes before the digits of a line's sum and then of those behind them
unfoldable pub line_sum : List ℕ → List ℕ → ℕ
line_sum before behind = finish (write (write initial before) behind)

-- the 16 digits of a line's sum
unfoldable pub sum_text : List ℕ → List ℕ → List ℕ
sum_text before behind = hex_text (to_be_bytes w64 (line_sum before behind))
