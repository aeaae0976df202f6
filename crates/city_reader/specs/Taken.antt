-- Tokens as they are taken.
use Rattle.std.specs.Prelude.{◌≡◌, ℕ, ℤ, List, ◌∷◌}
use Rattle.json.specs.Token.{Token, number}
use Rattle.city_reader.specs.Numbers.{IsWholeText}

-- the whole number n is the first of the tokens
abbrev pub IsWholeTaken : List Token → List Token → ℤ → Type 0
IsWholeTaken old new n = (s : List ℕ) × (old ≡ number s ∷ new) × IsWholeText s n
