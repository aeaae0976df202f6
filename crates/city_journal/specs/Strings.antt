-- Where a JSON string ends.
use Rattle.std.specs.Prelude.{ℕ, List, [], ◌∷◌, Bool, true, false, Option, None, Some, cond, ◌==◌, ◌&&◌, nat_le}

-- what is behind the quote that ends a string; whether the byte before was a backslash that escapes
abbrev pub behind_string : Bool → List ℕ → Option (List ℕ)
behind_string true [] = None
behind_string false [] = None
behind_string true (c ∷ cs) = behind_string false cs
behind_string false (c ∷ cs) = cond (c == 34) (Some cs) (behind_string (c == 92) cs)

-- a number's digits, in the form in which numbers are written, begin so
abbrev pub is_plain : List ℕ → Bool
is_plain [] = false
is_plain (c ∷ []) = nat_le 48 c && nat_le c 57
is_plain (c ∷ d ∷ ds) = nat_le 49 c && nat_le c 57
