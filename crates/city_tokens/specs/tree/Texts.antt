-- Texts of JSON with whole numbers, and other texts.
use Rattle.std.specs.Prelude.{◌≡◌, ◌≤◌, ◌<◌, ℕ, List, length, false, Some}
use Rattle.std.specs.Str.{IsUtf8}
use Rattle.serde_json.specs.Data.{Data}
use Rattle.serde_json.specs.Read.{read}
use Rattle.city_members.specs.Integral.{is_integral}

-- how many bytes a text may have
abbrev pub max_text : ℕ
max_text = 67108864

-- the text is JSON, and this is its tree
abbrev pub IsText : List ℕ → Data → Type 0
IsText text d = IsUtf8 text × (read text ≡ Some d)

-- the text is too long to be read
abbrev pub IsTooLong : List ℕ → Type 0
IsTooLong text = max_text < length text

-- the text isn't too long
abbrev pub IsReadable : List ℕ → Type 0
IsReadable text = length text ≤ max_text

-- the text isn't too long, and it is no JSON
abbrev pub IsNoJson : List ℕ → Type 0
IsNoJson text = IsReadable text × ((d : Data) → IsText text d → ⊥)

-- the text isn't too long, and this is its tree
abbrev pub HasTree : List ℕ → Data → Type 0
HasTree text d = IsReadable text × IsText text d

-- the text has a tree, and some number of it is no `i64`
abbrev pub HasOtherNumber : List ℕ → Type 0
HasOtherNumber text = (d : Data) × HasTree text d × (is_integral d ≡ false)
