-- Texts with names.
use Rattle.std.specs.Prelude.{ℕ, List, [], ◌∷◌, Option, None, Some, nat_eq, if◌then◌else◌}
use Rattle.std.specs.Cmp.Lexicographic.{pointwise}

-- a name, and its text
abbrev pub NamedText : Type 0
NamedText = List ℕ × List ℕ

-- the first text of this name
abbrev pub text_at : List NamedText → List ℕ → Option (List ℕ)
text_at [] name = None
text_at (t ∷ ts) name = if pointwise nat_eq t.0 name then Some t.1 else text_at ts name
