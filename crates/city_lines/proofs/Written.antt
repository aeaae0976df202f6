-- Items and members written one after another.
use Rattle.city_lines.proofs.Prelude.{List, map, ℕ, Token, Object, Option}
use Rattle.serde_json.specs.Data.{Data}
use Rattle.serde_json.specs.View.{items_of}
use Rattle.city_writer.specs.internal.tree.PartTokens.{closing_items, closing_members}
use Rattle.city_lines.specs.Told.{seen_members}

-- the items that are left, and the closing bracket
abbrev pub closing : {X : Type 0} (f : X → Data) → List X → List Token
closing f xs = closing_items (items_of (map f xs))

-- the objects that are left, and the closing brace
abbrev pub closing_seen : List (List ℕ × Option Object) → List Token
closing_seen found = closing_members (seen_members found)
