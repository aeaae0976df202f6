-- The line to report what a viewer saw.
use Rattle.std.specs.Prelude.{ℕ, List, [], ◌∷◌, ◌++◌, codes}
use Rattle.std.specs.Fmt.{decimal}

-- the numbers in decimal, a space before each
abbrev pub numbers_text : List ℕ → List ℕ
numbers_text [] = []
numbers_text (n ∷ ns) = codes " " ++ decimal n ++ numbers_text ns

-- the viewer's number, and the numbers of the changes it saw
abbrev pub seen_text : ℕ → List ℕ → List ℕ
seen_text viewer seen = codes "viewer " ++ decimal viewer ++ codes ":" ++ numbers_text seen
