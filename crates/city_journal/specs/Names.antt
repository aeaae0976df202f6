-- The name that the text of a script gives it.
use Rattle.std.specs.Prelude.{◌≡◌, ℕ, List, ◌∷◌, Option, None, Some, codes}
use Rattle.std.specs.Str.{IsUtf8}
use Rattle.json.specs.Json.{read_key, skip_value}
use Rattle.json.specs.Lex.{tokens}
use Rattle.json.specs.Token as token
use Rattle.json.specs.Token.{Token}

-- these tokens begin with a string
abbrev pub BeginsWith : List ℕ → List Token → List Token → Type 0
BeginsWith s rest tokens = tokens ≡ token.string s ∷ rest

-- behind these tokens of a script's commands come those of its name
pub record IsAtName (old new : List Token) : Type 0 where
  pub inside : List Token
  pub behind_key : List Token
  pub behind_commands : List Token
  pub opens : old ≡ token.begin_object ∷ inside
  pub commands : read_key inside ≡ Some (Some (codes "commands"), behind_key)
  pub passed : skip_value 128 behind_key ≡ Some behind_commands
  pub named : read_key behind_commands ≡ Some (Some (codes "name"), new)

-- a text begins as a script's, whose name stands behind its commands
pub record HasName (script : List ℕ) : Type 0 where
  pub name : List ℕ
  pub rest : List Token
  pub is_text : IsUtf8 script
  pub at_name : IsAtName (tokens script) (token.string name ∷ rest)

-- if a commit has a key, that is a text, and its script has a name
abbrev pub KeyFits : Option (List ℕ) → List ℕ → Type 0
KeyFits None script = Unit {0}
KeyFits (Some key) script = IsUtf8 key × HasName script
