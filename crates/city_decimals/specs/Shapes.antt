-- The shapes of values with an encoding of their own.
use Rattle.std.specs.Prelude.{ℕ, ◌&&◌, ◌||◌, List, Bool, true, false, not, cond, Option, Some, None, option_and_then}
use Rattle.std.specs.Prelude.{is_some, codes}
use Rattle.std.specs.Str.{bytes_eq}
use Rattle.json.specs.Json.{Json, null, boolean, number, string, array, object, no_items, item, no_members, member}
use Rattle.json.specs.Find.{get, at, as_number}
use Rattle.city_decimals.specs.Numbers.{is_whole}
use Rattle.city_decimals.specs.declared.shapes.Form.{Form}
use Rattle.city_decimals.specs.declared.shapes.Form.TheVariants.{Plain, Shielded, Framed}

-- the name of the member with a number's text
abbrev pub tag : List ℕ
tag = codes "#"

abbrev pub is_tag : List ℕ → Bool
is_tag k = bytes_eq k tag

-- the name of the attributes of an object (CityJSON 2.0, section 2)
abbrev pub is_attributes : List ℕ → Bool
is_attributes k = bytes_eq k (codes "attributes")

-- ---- the transform of a document (CityJSON 2.0, section 4)

abbrev pub is_number_at : ℕ → Json → Bool
is_number_at i j = is_some (option_and_then as_number (at i j))

-- an array of three numbers
abbrev pub is_triple : Option Json → Bool
is_triple None = false
is_triple (Some j) = is_number_at 0 j && is_number_at 1 j && is_number_at 2 j && not (is_some (at 3 j))

-- an object with a scale and a translation
abbrev pub is_frame : Json → Bool
is_frame j = is_triple (get (codes "scale") j) && is_triple (get (codes "translate") j)

abbrev pub is_transform : List ℕ → Json → Bool
is_transform k j = bytes_eq k (codes "transform") && is_frame j

-- ---- the form of a member

abbrev pub is_text_or_array : Json → Bool
is_text_or_array null = false
is_text_or_array (boolean b) = false
is_text_or_array (number s) = false
is_text_or_array (string s) = true
is_text_or_array (array js) = true
is_text_or_array (object ms) = false

abbrev pub is_text : Json → Bool
is_text null = false
is_text (boolean b) = false
is_text (number s) = false
is_text (string s) = true
is_text (array js) = false
is_text (object ms) = false

-- an array of one item other than a text
abbrev pub is_single : Json → Bool
is_single null = false
is_single (boolean b) = false
is_single (number s) = false
is_single (string s) = false
is_single (array no_items) = false
is_single (array (item j no_items)) = not (is_text j)
is_single (array (item j (item i js))) = false
is_single (object ms) = false

-- a number encoded as an object
abbrev pub is_fraction : Json → Bool
is_fraction null = false
is_fraction (boolean b) = false
is_fraction (number s) = not (is_whole s)
is_fraction (string s) = false
is_fraction (array js) = false
is_fraction (object ms) = false

-- Under the tag a text or an array gets a shield, so no other object is a number. Under `attributes` a number gets
-- one if it is encoded as an object, so objects alone are objects there; and so does an array like a shield.
abbrev pub is_shielded : List ℕ → Json → Bool
is_shielded k j = (is_tag k && is_text_or_array j) || (is_attributes k && (is_fraction j || is_single j))

-- at the top of a document a transform gets a frame
abbrev pub form_of : Bool → List ℕ → Json → Form
form_of top k j = cond (top && is_transform k j) Framed (cond (is_shielded k j) Shielded Plain)

abbrev pub three : List ℕ → Json
three s = array (item (number s) (item (number s) (item (number s) no_items)))

-- the identity, with the transform under the tag
abbrev pub framed : Json → Json
framed j = object (member tag j (member (codes "scale") (three (codes "1")) (member (codes "translate") (three
    (codes "0")) no_members)))

abbrev pub in_form : Form → Json → Json
in_form Plain j = j
in_form Shielded j = array (item j no_items)
in_form Framed j = framed j

-- ---- the value in a form

-- the value under the name may be a shield
abbrev pub has_shield : List ℕ → Json → Bool
has_shield k j = is_tag k || (is_attributes k && is_single j)

-- the item of an array of one; any other value unchanged
abbrev pub only : Json → Json
only null = null
only (boolean b) = boolean b
only (number s) = number s
only (string s) = string s
only (array no_items) = array no_items
only (array (item j no_items)) = j
only (array (item j (item i js))) = array (item j (item i js))
only (object ms) = object ms

-- the value of the first member, if its name is the tag; any other value unchanged
abbrev pub fronted : Json → Json
fronted null = null
fronted (boolean b) = boolean b
fronted (number s) = number s
fronted (string s) = string s
fronted (array js) = array js
fronted (object no_members) = object no_members
fronted (object (member k j ms)) = cond (is_tag k) j (object (member k j ms))
