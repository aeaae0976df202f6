-- The ends of whole numbers. Only private clauses cite it.
use Rattle.std.specs.Prelude.{◌≡◌, ℕ, ℤ, ◌<◌, ◌≤◌, List, length, take, drop, true, Some, Option, IfSome}
use Rattle.std.specs.Str.Parse.{AllDigits, digits_value}
use Rattle.json.specs.Word.{after_number, after_whole, ends_word}
use Rattle.serde_json.specs.Find.{as_i64, of_integer}
use Rattle.serde_json.specs.Read.{number_of}

-- a number ends at the place r, and its word with it
abbrev pub AfterWholeNumber : List ℕ → ℕ → Option ℕ → Type 0
AfterWholeNumber d from r =
    IfSome r (λ e. (from ≤ e) × (e ≤ length d) × (after_number (drop from d) ≡ Some (drop e d))
    × (ends_word (drop e d) ≡ true))

-- the first bytes, so many of them, are digits, and n is their value
abbrev pub AreDigits : List ℕ → ℕ → ℕ → Type 0
AreDigits t count n =
    (count ≤ 18) × (count ≤ length t) × AllDigits 10 (take count t) × (n ≡ digits_value 10 (take count t))

-- so many bytes are a whole number without a sign, and its word ends with it
abbrev pub IsWholeFront : List ℕ → ℕ → Type 0
IsWholeFront t count =
    (0 < count) × (count ≤ length t) × (after_whole t ≡ Some (drop count t)) × (ends_word (drop count t) ≡ true)

-- s is a text of the number n, an `i64`
abbrev pub IsWholeText : List ℕ → ℤ → Type 0
IsWholeText s n = (number_of s ≡ Some (of_integer n)) × (as_i64 (of_integer n) ≡ Some n)

-- so many bytes are the text of n, and its word ends with it
abbrev pub IsSmallWhole : List ℕ → ℕ → ℤ → Type 0
IsSmallWhole t count n =
    (count ≤ length t) × (after_number t ≡ Some (drop count t)) × (ends_word (drop count t) ≡ true)
    × IsWholeText (take count t) n
