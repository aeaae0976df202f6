-- Texts with an end printed by a writer.
use Rattle.std.specs.Prelude.{◌≡◌, ◌++◌, ℕ, List}
use Rattle.std.specs.Str.{IsUtf8}
use Rattle.json.specs.Token.{Token}
use Rattle.json.specs.Print.{print, ArePrintableOrBad}

-- the text of tokens, printed by a writer
pub record IsPrinted (text : List ℕ) (ts : List Token) : Type 0 where
  pub text_is : text ≡ print ts
  pub printable : ArePrintableOrBad ts
  pub utf8 : IsUtf8 text

-- the bytes, and then such a text
pub record IsAppended (bytes : List ℕ) (ts : List Token) (all : List ℕ) : Type 0 where
  pub text : List ℕ
  pub printed : IsPrinted text ts
  pub all_is : all ≡ bytes ++ text
