-- Values of whole numbers, read from the tokens of a text.
use Rattle.std.specs.Prelude.{◌≡◌, ◌≤◌, ℕ, List, length, true, Some}
use Rattle.json.specs.Token.{Token}
use Rattle.json.specs.Json.{value, items, members}
use Rattle.serde_json.specs.Data.{Data, Items, Members, no_members}
use Rattle.serde_json.specs.Read.{of_json, of_items, of_members, converted}
use Rattle.city_members.specs.Integral.{is_integral, items_integral, members_integral}

-- a value, nested no deeper than the number, stands before the tokens left
pub record IsValue (depth : ℕ) (old : List Token) (d : Data) (new : List Token) : Type 0 where
  pub read : converted of_json (value depth old) ≡ Some (d, new)
  pub whole : is_integral d ≡ true

-- the items up to the closing bracket, by any sufficient number of turns
pub record IsRestOfArray (depth : ℕ) (old : List Token) (ds : Items) (new : List Token) : Type 0 where
  pub read : (turns : ℕ) → length old ≤ turns → converted of_items (items (value depth) turns old) ≡ Some (ds, new)
  pub whole : items_integral ds ≡ true

-- the members up to the closing brace
pub record IsRestOfObject (depth : ℕ) (old : List Token) (ms : Members) (new : List Token) : Type 0 where
  pub read : converted (λ found. of_members found no_members) (members (value depth) (length old) old) ≡ Some (ms, new)
  pub whole : members_integral ms ≡ true
