-- A value with its numbers encoded: numbers other than an `i64` as texts under the tag.
use Rattle.std.specs.Prelude.{ℕ, List, Bool, true, false, cond}
use Rattle.json.specs.Json.{Json, null, boolean, number, string, array, object, Items, no_items, item, Members}
use Rattle.json.specs.Json.{no_members, member}
use Rattle.city_decimals.specs.Numbers.{is_whole}
use Rattle.city_decimals.specs.Shapes.{tag, form_of, in_form}

abbrev pub tagged : List ℕ → Json
tagged s = object (member tag (string s) no_members)

abbrev mutual
  pub encoded : Json → Json
  encoded null = null
  encoded (boolean b) = boolean b
  encoded (number s) = cond (is_whole s) (number s) (tagged s)
  encoded (string s) = string s
  encoded (array js) = array (encoded_items js)
  encoded (object ms) = object (encoded_members false ms)

  pub encoded_items : Items → Items
  encoded_items no_items = no_items
  encoded_items (item j js) = item (encoded j) (encoded_items js)

  -- each member under its name, in its place; `top` at the top of a text
  pub encoded_members : Bool → Members → Members
  encoded_members top no_members = no_members
  encoded_members top (member k j ms) = member k (in_form (form_of top k j) (encoded j)) (encoded_members top ms)

-- the value of a whole text
abbrev pub encoded_top : Json → Json
encoded_top null = null
encoded_top (boolean b) = boolean b
encoded_top (number s) = encoded (number s)
encoded_top (string s) = string s
encoded_top (array js) = array (encoded_items js)
encoded_top (object ms) = object (encoded_members true ms)
