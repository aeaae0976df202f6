-- Vertices in their order, without the brackets around them.
use Rattle.std.specs.Prelude.{◌≡◌, ◌++◌, ◌∷◌, [], ℕ, List, map, true}
use Rattle.std.specs.List.{list_all}
use Rattle.json.specs.Token.{Token}
use Rattle.serde_json.specs.View.{items_of}
use Rattle.city_model.specs.declared.object.Point.{Point}
use Rattle.city_writer.specs.internal.tree.Appended.{IsPrinted}
use Rattle.city_writer.specs.internal.tree.ReadsBack.{ItemsReadBack}
use Rattle.city_writer.specs.shape.Vertices.{vertex_data, is_i64_point}
use Rattle.city_writer.specs.tree.Tokens.{tokens_of}

abbrev pub tokens_of_vertices : List Point → List Token
tokens_of_vertices [] = []
tokens_of_vertices (p ∷ ps) = tokens_of (vertex_data p) ++ tokens_of_vertices ps

abbrev pub VerticesReadBack : List Point → Type 0
VerticesReadBack ps = ItemsReadBack (items_of (map vertex_data ps))

-- a text has the vertices of a piece, in the range of the program's types
pub record AreVertices (ps : List Point) (text : List ℕ) : Type 0 where
  pub printed : IsPrinted text (tokens_of_vertices ps)
  pub reads : VerticesReadBack ps
  pub in_range : list_all is_i64_point ps ≡ true
