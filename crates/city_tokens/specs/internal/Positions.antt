-- Points of vertices, and positions before their points are known.
use Rattle.std.specs.Prelude.{◌≡◌, ◌∷◌, ℕ, zero, suc, List, map, Option, Some, option_and_then}
use Rattle.json.specs.Token.{Token, begin_array}
use Rattle.serde_json.specs.Data.{Data}
use Rattle.serde_json.specs.Find.{as_number, as_i64}
use Rattle.city_model.specs.declared.object.Point.{Point}
use Rattle.city_tokens.specs.declared.vertices.Vertex.{Vertex}
use Rattle.city_model.specs.Nesting.{Nested}
use Rattle.city_tokens.specs.internal.Standing.{IsArrayOf}
use Rattle.city_tokens.specs.tree.Triples.{point_of}

abbrev pub IsVertex : Vertex → Data → Type 0
IsVertex v d = point_of d ≡ Some v.point

abbrev pub points_of : List Vertex → List Point
points_of vs = map (λ v. v.point) vs

-- a position stands in the place of x until its point is known
abbrev pub IsPosition : Point → Data → Type 0
IsPosition p d = option_and_then as_i64 (as_number d) ≡ Some p.x

abbrev pub IsNested : (n : ℕ) → Nested n → Data → Type 0
IsNested zero = IsPosition
IsNested (suc n) = IsArrayOf (IsNested n)

-- if the old one stood for a value, the value is read as the new one
abbrev pub IsResolved : {A : Type 0} → (A → Data → Type 0) → (Data → Option A) → A → A → Type 0
IsResolved stands reads old new = (d : Data) → stands old d → reads d ≡ Some new

-- the tokens, behind so many opening brackets
abbrev pub opened : ℕ → List Token → List Token
opened zero ts = ts
opened (suc n) ts = begin_array ∷ opened n ts
