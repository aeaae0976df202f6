-- The value in the form of a member, before decoding.
use Rattle.std.specs.Prelude.{ℕ, ◌&&◌, List, Bool, cond}
use Rattle.json.specs.Json.{Json, null, boolean, number, string, array, object, no_members, member}
use Rattle.city_decimals.specs.Shapes.{is_tag, is_transform, has_shield, only}

abbrev pub front : Json → Json
front null = null
front (boolean b) = boolean b
front (number s) = number s
front (string s) = string s
front (array js) = array js
front (object no_members) = object no_members
front (object (member k j ms)) = cond (is_tag k) (only j) (object (member k j ms))

abbrev pub inner : Bool → List ℕ → Json → Json
inner top k j = cond (top && is_transform k j) (front j) (cond (has_shield k j) (only j) j)
