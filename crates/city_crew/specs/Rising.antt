-- Strictly rising lists of numbers.
use Rattle.std.specs.Prelude.{ℕ, ◌<◌, List, [], ◌∷◌}

abbrev pub RisesOver : ℕ → List ℕ → Type 0
RisesOver x [] = Unit {0}
RisesOver x (y ∷ ys) = (x < y) × RisesOver y ys

-- each number is larger than the one before
abbrev pub Rises : List ℕ → Type 0
Rises [] = Unit {0}
Rises (x ∷ xs) = RisesOver x xs

abbrev pub last_over : ℕ → List ℕ → ℕ
last_over x [] = x
last_over x (y ∷ ys) = last_over y ys

-- the last number, or 0
abbrev pub last_of : List ℕ → ℕ
last_of xs = last_over 0 xs
