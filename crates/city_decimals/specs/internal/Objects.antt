-- The decoding of an object's members.
use Rattle.std.specs.Prelude.{◌≡◌, ◌<◌, ℕ, List, ◌∷◌, ◌++◌, length, Bool, Option, Some, None}
use Rattle.json.specs.Token.{Token, begin_object, key}
use Rattle.json.specs.Json.{Json, Members, no_members, member, read_key, value}
use Rattle.json.specs.Tree.{json_tokens}
use Rattle.city_decimals.specs.Decoded.{number_in, number_or, out_of_form, decoded, decoded_members}

abbrev pub decoded_object : Bool → Members → Json
decoded_object top ms = number_or (number_in ms) (decoded_members top ms)

-- the output for the first member, before the name of the next; for a member alone, the whole object
abbrev pub first_tokens : Bool → List ℕ → Json → Option (List ℕ) → List Token
first_tokens top k j None = json_tokens (decoded_object top (member k j no_members))
first_tokens top k j (Some l) = begin_object ∷ key k ∷ json_tokens (out_of_form top k j (decoded j))

-- the value of the first member was read, then the name of the next or the brace; and this is the output for it
pub record IsFirstWritten (top : Bool) (depth : ℕ) (k : List ℕ) (old : List Token) (out : List Token)
    (next : Option (List ℕ)) (new : List Token) (now : List Token) : Type 0 where
  pub j : Json
  pub left : List Token
  pub read : value depth old ≡ Some (j, left)
  pub shorter : length left < length old
  pub named : read_key left ≡ Some (next, new)
  pub now_is : now ≡ out ++ first_tokens top k j next
