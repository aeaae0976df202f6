-- The index of the first newline, and a newline at the end.
use Rattle.std.specs.Prelude.{◌≡◌, ◌<◌, ◌⊎◌, ℕ, List, [], ◌∷◌, ◌++◌, Option, Some, None, length, take, get_or}
use Rattle.city_decimals.specs.Lines.{HasNoNewline}

abbrev pub IsFirstNewline : List ℕ → Option ℕ → Type 0
IsFirstNewline text None = HasNoNewline text
IsFirstNewline text (Some at) = (at < length text) × (get_or text at 0 ≡ 10) × HasNoNewline (take at text)

-- the text is the body, or the body and a newline
abbrev pub IsBody : List ℕ → List ℕ → Type 0
IsBody text body = (text ≡ body) ⊎ (text ≡ body ++ 10 ∷ [])
