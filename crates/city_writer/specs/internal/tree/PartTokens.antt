-- The tokens of parts of data.
use Rattle.std.specs.Prelude.{List, [], ◌∷◌, ◌++◌, ℕ, Option, Some, None}
use Rattle.json.specs.Token.{Token, key}
use Rattle.json.specs.Tree.{items_tokens, members_tokens}
use Rattle.serde_json.specs.Data.{Data, Items, Members, no_members, member}
use Rattle.serde_json.specs.Written.{items_outline, members_outline}
use Rattle.city_writer.specs.tree.Lists.{list_data}
use Rattle.city_writer.specs.tree.Tokens.{tokens_of}

-- the items, and the closing bracket
abbrev pub closing_items : Items → List Token
closing_items ds = items_tokens (items_outline ds)

-- the members, and the closing brace
abbrev pub closing_members : Members → List Token
closing_members ms = members_tokens (members_outline ms)

-- the members alone
abbrev pub tokens_of_members : Members → List Token
tokens_of_members no_members = []
tokens_of_members (member k d ms) = key k ∷ (tokens_of d ++ tokens_of_members ms)

-- an optional member
abbrev pub tokens_of_own : List ℕ → Option Data → List Token
tokens_of_own name None = []
tokens_of_own name (Some d) = key name ∷ tokens_of d

-- a list, unless it is empty
abbrev pub listed : {A : Type 0} → (A → Data) → List A → Option Data
listed f [] = None
listed f (x ∷ xs) = Some (list_data f (x ∷ xs))
