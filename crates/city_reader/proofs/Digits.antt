-- Digits read one by one.
use Rattle.std.proofs.Common.{◌≡◌, ℕ, false, [], ◌+◌, ◌*◌, ◌%◌, ◌^◌, ◌<◌, ◌≤◌, List, length, take, get_or, sym, ap, ◌∙◌}
use Rattle.std.proofs.Common.{arith, append-nil, length-take}
use Rattle.std.specs.Str.Parse.{AllDigits, digits_value}
use Rattle.fast_float.specs.Text.{scan}
use Rattle.std.proofs.Math.Nat.{pow-le-pow_right}
use Rattle.std.proofs.lemmas.Int.Digits.{digits_more, digits_value_more, digits_value-lt}
use Rattle.std.proofs.lemmas.Str.{digit_value_digit}
use Rattle.std.proofs.lemmas.Float.Parse.{scan_numeral-text_of}
use Rattle.std.specs.Char.{digit_value}
use Rattle.fast_float.specs.Text.{Parts, digits_of, text_of, IsInteger}

-- a byte 48 too large for its digit
abbrev pub IsDigit : ℕ → ℕ → Type 0
IsDigit byte digit = (digit_value byte < 10) × (digit ≡ digit_value byte)

pub digit_of : (byte : ℕ) → byte < 256 → (byte + 18446744073709551568) % 18446744073709551616 ≤ 9
    → IsDigit byte ((byte + 18446744073709551568) % 18446744073709551616)
digit_of byte in_range few = grind (arith, digit_value_digit)

-- one digit more
pub more : (s : List ℕ) (i n digit : ℕ) → i < length s → AllDigits 10 (take i s) → n ≡ digits_value 10 (take i s)
    → IsDigit (get_or s i 0) digit
    → AllDigits 10 (take (i + 1) s) × (n * 10 + digit ≡ digits_value 10 (take (i + 1) s))
more s i n digit within all is h = search (arith, digits_more, digits_value_more, h)

-- of at most so many digits
pub below : (k i : ℕ) (s : List ℕ) → AllDigits 10 (take i s) → i ≤ k → digits_value 10 (take i s) < 10 ^ k
below k i s all few = grind (arith, length-take, digits_value-lt, pow-le-pow_right)

-- the parts of digits alone
abbrev parts_of : List ℕ → Parts
parts_of ds =
    record { whole = ds; point = false; fraction = []; exponent_negative = false; exponent = []; len = length ds }

scanned : (ds : List ℕ) → AllDigits 10 ds → scan ds ≡ parts_of ds
scanned ds all =
    let is : text_of (parts_of ds) ≡ ds = append-nil ds in
    ap scan (sym is) ∙ scan_numeral-text_of (parts_of ds) (search (all, ap length (sym is)))

pub digits_scanned : (ds : List ℕ) → AllDigits 10 ds → 0 < length ds
    → IsInteger (scan ds) × (digits_of (scan ds) ≡ digits_value 10 ds)
digits_scanned ds all some = search (arith, scanned, append-nil)
