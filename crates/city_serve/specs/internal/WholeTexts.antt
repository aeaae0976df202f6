-- Texts with only whole numbers.
use Rattle.std.specs.Prelude.{◌≡◌, ℕ, true, List}
use Rattle.serde_json.specs.Data.{Data}
use Rattle.city_members.specs.Integral.{is_integral}
use Rattle.city_tokens.specs.tree.Texts.{HasTree}

-- each tree the editor may read from the text has only whole numbers
abbrev pub HasWholeNumbers : List ℕ → Type 0
HasWholeNumbers text = (d : Data) → HasTree text d → is_integral d ≡ true
