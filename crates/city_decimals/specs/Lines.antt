-- Texts decoded line by line.
use Rattle.std.specs.Prelude.{◌≡◌, ◌≢◌, ◌<◌, ◌≤◌, ℕ, Bool, true, List, [], ◌∷◌, ◌++◌, length, take, drop, get_or, codes}
use Rattle.std.specs.Str.{IsUtf8}
use Rattle.json.specs.Json.{Json, object, Members, no_members, member}
use Rattle.json.specs.Print.{print}
use Rattle.json.specs.Tree.{json_tokens, HasNumbers}
use Rattle.city_decimals.specs.Decoded.{decoded_top}
use Rattle.city_decimals.specs.Shapes.{framed}
use Rattle.city_decimals.specs.Texts.{IsValueTo}

abbrev pub HasNoNewline : List ℕ → Type 0
HasNoNewline line = (k : ℕ) → k < length line → get_or line k 0 ≢ 10

-- out is the compact text of the decoded value of the line, however deep it nests
abbrev pub IsDecodedLine : List ℕ → List ℕ → Type 0
IsDecodedLine line out = (limit : ℕ) × (j : Json) × IsValueTo limit j line × (out ≡ print (json_tokens (decoded_top j)))

-- a line and its decoding
abbrev pub ArePairs : List (List ℕ × List ℕ) → Type 0
ArePairs [] = Unit {0}
ArePairs (p ∷ ps) = HasNoNewline p.0 × IsDecodedLine p.0 p.1 × ArePairs ps

-- lines, each with its newline, and the rest
abbrev pub first_text : List (List ℕ × List ℕ) → List ℕ → List ℕ
first_text [] rest = rest
first_text (p ∷ ps) rest = p.0 ++ 10 ∷ first_text ps rest

abbrev pub second_text : List (List ℕ × List ℕ) → List ℕ → List ℕ
second_text [] rest = rest
second_text (p ∷ ps) rest = p.1 ++ 10 ∷ second_text ps rest

-- out has each line of the text decoded; the bytes after the last newline stay
pub record AreDecodedLines (text out : List ℕ) : Type 0 where
  pub pairs : List (List ℕ × List ℕ)
  pub rest : List ℕ
  pub decoded : ArePairs pairs
  pub last : HasNoNewline rest
  pub text_is : text ≡ first_text pairs rest
  pub out_is : out ≡ second_text pairs rest

-- ---- printed lines

-- the members, with others behind them
abbrev pub joined : Members → Members → Members
joined no_members others = others
joined (member k j ms) others = member k j (joined ms others)

-- a transform of a top, in its frame, with the members before it and behind it
abbrev pub framed_top : Members → Members → Members → Json
framed_top before inside behind = object (joined before (member (codes "transform") (framed (object inside)) behind))

-- the value has such a transform
abbrev pub IsFramedTop : Json → Type 0
IsFramedTop j = (before inside behind : Members) × (j ≡ framed_top before inside behind)

-- the text is the compact text of this value
abbrev pub IsPrinted : Json → List ℕ → Type 0
IsPrinted j line = IsUtf8 line × HasNumbers j × (line ≡ print (json_tokens j))

abbrev pub ArePrinted : List (List ℕ) → Type 0
ArePrinted [] = Unit {0}
ArePrinted (line ∷ lines) = HasNoNewline line × ((j : Json) × IsPrinted j line) × ArePrinted lines

-- lines, each with its newline
abbrev pub lines_text : List (List ℕ) → List ℕ
lines_text [] = []
lines_text (line ∷ lines) = line ++ 10 ∷ lines_text lines

-- each line of the text is printed so
pub record HasPrintedLines (text : List ℕ) : Type 0 where
  pub lines : List (List ℕ)
  pub printed : ArePrinted lines
  pub text_is : text ≡ lines_text lines

-- the text is one line, of a value with a framed transform if so
pub record IsPrintedModel (is_framed : Bool) (text : List ℕ) : Type 0 where
  pub line : List ℕ
  pub tree : Json
  pub one : HasNoNewline line
  pub printed : IsPrinted tree line
  pub frame : is_framed ≡ true → IsFramedTop tree
  pub text_is : text ≡ line ++ 10 ∷ []

-- out has each line of the text decoded, those of the report in front: it is the first `report` bytes of the text, and
-- the first `decoded` of out
pub record IsDecodedOutput (text : List ℕ) (report : ℕ) (out : List ℕ) (decoded : ℕ) : Type 0 where
  pub within : decoded ≤ length out
  pub lines : AreDecodedLines (take report text) (take decoded out)
  pub model : AreDecodedLines (drop report text) (drop decoded out)
