-- The model of `Cursor`, and one lexeme at a time. Only private clauses cite it.
use Rattle.std.specs.Prelude.{◌≡◌, ℕ, ◌≤◌, List, ◌∷◌, ◌++◌, length, drop, true}
use Rattle.std.specs.Str.{IsUtf8}
use Rattle.json.specs.Word.{ends_word}
use Rattle.json.specs.Lex.{Lexeme, between, lex}
use Rattle.city_reader.specs.declared.cursor.Cursor.TheInside.{Inside}

abbrev pub cursor_view : Inside → List ℕ
cursor_view a = drop a.at a.text.now

pub record IsCursor (a : Inside) : Type 0 where
  pub utf8 : IsUtf8 a.text.now
  pub within : a.at ≤ length a.text.now

-- the text `old` begins with the lexeme l, and `new` is left
abbrev pub IsLexeme : List ℕ → Lexeme → List ℕ → Type 0
IsLexeme old l new = lex between old ≡ l ∷ lex between new

-- the word of this name is passed
abbrev pub IsPassed : List ℕ → List ℕ → List ℕ → Type 0
IsPassed old name new = (old ≡ name ++ new) × (ends_word new ≡ true)
