-- Repeated parts of a text, one after another.
use Rattle.std.specs.Prelude.{◌≡◌, ℕ, List, [], ◌∷◌, Some}
use Rattle.json.specs.Token.{Token}
use Rattle.json.specs.Json.{read_key}
use Rattle.serde_json.specs.Data.{Data}
use Rattle.city_model.specs.Runs.{Scripted}
use Rattle.city_model.specs.declared.object.Object.{Object}
use Rattle.city_tokens.specs.declared.vertices.Vertex.{Vertex}
use Rattle.city_tokens.specs.internal.Objects.{IsObject}
use Rattle.city_tokens.specs.internal.Positions.{IsVertex}
use Rattle.city_tokens.specs.internal.Scripts.{IsScript}
use Rattle.city_tokens.specs.internal.Standing.{IsReadAs}

-- the tokens begin with these, one after another, and `new` are left
abbrev pub AreNext : {A : Type 0} → (A → List Token → List Token → Type 0) → List A → List Token → List Token → Type 0
AreNext R [] old new = old ≡ new
AreNext R (x ∷ xs) old new = (next : List Token) × R x old next × AreNext R xs next new

-- the tokens begin with a member: the id is its name, the object its value
abbrev pub IsNextObject : List ℕ × Object → List Token → List Token → Type 0
IsNextObject e old new =
    (after : List Token) × (read_key old ≡ Some (Some e.0, after)) × IsReadAs IsObject e.1 125 after new

-- the tokens begin with an item of an array, nested no deeper than the number
abbrev pub IsNextItem : {A : Type 0} → (A → Data → Type 0) → ℕ → A → List Token → List Token → Type 0
IsNextItem R depth x old new = IsReadAs R x depth old new

-- the tokens begin with a vertex
abbrev pub IsNextVertex : Vertex → List Token → List Token → Type 0
IsNextVertex = IsNextItem IsVertex 125

-- the tokens begin with a script
abbrev pub IsNextScript : Scripted → List Token → List Token → Type 0
IsNextScript = IsNextItem IsScript 126
