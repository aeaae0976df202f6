-- Texts of cities as they are written.
use Rattle.std.specs.Prelude.{◌≡◌, ℕ, List}
use Rattle.std.specs.Str.{IsUtf8}
use Rattle.json.specs.Lex.{tokens}
use Rattle.city_model.specs.CityMap.{CityValue}
use Rattle.city_writer.specs.Pool.{pool_of}
use Rattle.city_writer.specs.document.Canonical.{tree_of}
use Rattle.city_writer.specs.document.Ranges.{IsInRange}
use Rattle.city_writer.specs.internal.document.KeptMembers.{IsKeptCity}
use Rattle.city_writer.specs.internal.tree.ReadsBack.{ReadsBack}
use Rattle.city_writer.specs.tree.Tokens.{tokens_of}

-- the text is UTF-8; its tokens are those of the city's tree, and are read as this tree; the kept members of the city
-- may be kept at their places, and its numbers are in range
pub record IsTextOf (text : List ℕ) (city : CityValue) : Type 0 where
  pub tokens_are : tokens text ≡ tokens_of (tree_of city)
  pub utf8 : IsUtf8 text
  pub reads : ReadsBack (tree_of city)
  pub kept : IsKeptCity city
  pub in_range : IsInRange (pool_of city) city.0
