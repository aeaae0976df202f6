-- Promises of the canonical text of a city. Some need that the text doesn't nest too deep to be read.
use Rattle.std.specs.Prelude.{◌≡◌, ◌≤◌, ℕ, List}
use Rattle.json.specs.Lex.{tokens}
use Rattle.serde_json.specs.Data.{depth}
use Rattle.serde_json.specs.Read.{max_depth}
use Rattle.city_model.specs.CityMap.{object_at, CityValue}
use Rattle.city_model.specs.Relations.{IsLawful}
use Rattle.city_doc.specs.document.Accepted.{IsAccepted}
use Rattle.city_writer.specs.document.Canonical.{tree_of, city_text}
use Rattle.city_writer.specs.document.Ranges.{IsInRange}
use Rattle.city_tokens.specs.document.Cities.{IsTextOfCity}
use Rattle.city_tokens.specs.tree.Texts.{IsReadable}
use Rattle.city_writer.specs.tree.Tokens.{tokens_of}
use Rattle.city_writer.specs.Pool.{pool_of}

-- the text stands for the city; any city of the text is written as this text; if the city is lawful and the text
-- isn't too long, the text is accepted; if some text stands for the city, this one does; its tokens are those of
-- the city's tree, and the tree's numbers are in range
pub record IsCanonicalText (text : List ℕ) (city : CityValue) : Type 0 where
  pub read_again : depth (tree_of city) ≤ max_depth → IsTextOfCity text city
  pub canonical : depth (tree_of city) ≤ max_depth
      → (other : CityValue) → IsTextOfCity text other → city_text other ≡ text
  pub accepted : depth (tree_of city) ≤ max_depth → IsReadable text → IsLawful (object_at city.1) → IsAccepted text
  pub rewritten : (document : List ℕ) → IsTextOfCity document city → IsTextOfCity text city
  pub tokens_are : tokens text ≡ tokens_of (tree_of city)
  pub in_range : IsInRange (pool_of city) city.0
