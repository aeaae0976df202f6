-- A value with its encoded numbers as numbers again.
use Rattle.std.specs.Prelude.{ℕ, ◌&&◌, List, Bool, true, false, cond, Option, Some, None}
use Rattle.json.specs.Json.{Json, null, boolean, number, string, array, object, Items, no_items, item, Members}
use Rattle.json.specs.Json.{no_members, member}
use Rattle.city_decimals.specs.Numbers.{is_number}
use Rattle.city_decimals.specs.Shapes.{is_tag, is_transform, has_shield, only, fronted}

abbrev pub number_under : List ℕ → Json → Option (List ℕ)
number_under k null = None
number_under k (boolean b) = None
number_under k (number s) = None
number_under k (string s) = cond (is_tag k && is_number s) (Some s) None
number_under k (array js) = None
number_under k (object ms) = None

-- the number encoded by these members: they are one text under the tag, a number's
abbrev pub number_in : Members → Option (List ℕ)
number_in no_members = None
number_in (member k j no_members) = number_under k j
number_in (member k j (member l i ms)) = None

abbrev pub number_or : Option (List ℕ) → Members → Json
number_or None ms = object ms
number_or (Some s) ms = number s

-- the value of a member j without its form; r is j with its parts decoded
abbrev pub out_of_form : Bool → List ℕ → Json → Json → Json
out_of_form top k j r = cond (top && is_transform k j) (fronted r) (cond (has_shield k r) (only r) r)

abbrev mutual
  pub decoded : Json → Json
  decoded null = null
  decoded (boolean b) = boolean b
  decoded (number s) = number s
  decoded (string s) = string s
  decoded (array js) = array (decoded_items js)
  decoded (object ms) = number_or (number_in ms) (decoded_members false ms)

  pub decoded_items : Items → Items
  decoded_items no_items = no_items
  decoded_items (item j js) = item (decoded j) (decoded_items js)

  pub decoded_members : Bool → Members → Members
  decoded_members top no_members = no_members
  decoded_members top (member k j ms) = member k (out_of_form top k j (decoded j)) (decoded_members top ms)

-- the value of a whole text
abbrev pub decoded_top : Json → Json
decoded_top null = null
decoded_top (boolean b) = boolean b
decoded_top (number s) = number s
decoded_top (string s) = string s
decoded_top (array js) = array (decoded_items js)
decoded_top (object ms) = number_or (number_in ms) (decoded_members true ms)
