-- Whole texts, encoded or decoded.
use Rattle.std.specs.Prelude.{◌≡◌, ◌≤◌, ℕ, List}
use Rattle.json.specs.Json.{Json}
use Rattle.json.specs.Print.{print}
use Rattle.json.specs.Tree.{json_tokens, HasNumbers, depth}
use Rattle.city_decimals.specs.Encoded.{encoded_top}
use Rattle.city_decimals.specs.Decoded.{decoded_top}
use Rattle.city_decimals.specs.Texts.{IsValueTo}
use Rattle.city_decimals.specs.declared.direction.Direction.{Direction}
use Rattle.city_decimals.specs.declared.direction.Direction.TheVariants.{Encode, Decode}

abbrev pub top_changed : Direction → Json → Json
top_changed Encode j = encoded_top j
top_changed Decode j = decoded_top j

-- the text nests no deeper than the limit, and out is the compact text of its changed value
pub record IsChanged (limit : ℕ) (way : Direction) (text out : List ℕ) : Type 0 where
  pub j : Json
  pub value : IsValueTo limit j text
  pub numbers : HasNumbers j
  pub shallow : depth j ≤ limit
  pub out_is : out ≡ print (json_tokens (top_changed way j))
