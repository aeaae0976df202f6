-- The lines of a file.
use Rattle.std.specs.Prelude.{◌≡◌, ◌≤◌, ◌+◌, ◌==◌, ℕ, List, [], ◌∷◌, ◌++◌, false, flat_map, if◌then◌else◌, get_or, length}
use Rattle.std.specs.List.{AllByRecursion, list_any}

-- the lines, the first of them with one more byte at its front; a byte that no newline follows is in no line
abbrev pub with_byte : ℕ → List (List ℕ) → List (List ℕ)
with_byte c [] = []
with_byte c (l ∷ ls) = (c ∷ l) ∷ ls

-- the lines of some bytes, each without the newline that ends it; what stands behind the last newline is none
abbrev pub whole_lines : List ℕ → List (List ℕ)
whole_lines [] = []
whole_lines (c ∷ cs) = if c == 10 then [] ∷ whole_lines cs else with_byte c (whole_lines cs)

-- the bytes have no newline
abbrev pub IsLine : List ℕ → Type 0
IsLine l = list_any (λ c. c == 10) l ≡ false

abbrev pub AreLines : List (List ℕ) → Type 0
AreLines ls = AllByRecursion IsLine ls

-- the bytes of lines, each with its newline
abbrev pub lines_text : List (List ℕ) → List ℕ
lines_text ls = flat_map (λ l. l ++ 10 ∷ []) ls

-- the first of the bytes, this many, end behind a newline
pub record EndsLine (bytes : List ℕ) (n : ℕ) : Type 0 where
  pub last : ℕ
  pub behind : n ≡ last + 1
  pub within : n ≤ length bytes
  pub newline : get_or bytes last 0 ≡ 10
