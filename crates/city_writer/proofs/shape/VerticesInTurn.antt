-- Vertices one after another, and pieces of them put together.
use Rattle.city_writer.proofs.Prelude.{◌≡◌, ℕ, Bool, true, false, List, [], ◌∷◌, ◌++◌, Option, refl, ◌∙◌, ap, map}
use Rattle.city_writer.proofs.Prelude.{subst, append_assoc, list_all, list_all-append, is_some, Token, items_of, Point}
use Rattle.city_writer.proofs.Prelude.{tokens_of, closing_items, is_i64_point, vertex_data}
use Rattle.std.proofs.Common.{◌||◌}
use Rattle.std.specs.Str.{IsUtf8}
use Rattle.std.proofs.lemmas.Grind.{fold-append}
use Rattle.json.specs.Lex.{tokens}
use Rattle.json.specs.Token.{end_array}
use Rattle.json.specs.Print.{print, print_from, ends}
use Rattle.serde_json.specs.Written.{outline}
use Rattle.city_writer.specs.internal.Pieces.{EachPiece, is_some_text, joined_by_commas}
use Rattle.city_writer.specs.internal.shape.InTurn.{AreVertices, VerticesReadBack, tokens_of_vertices}
use Rattle.city_writer.specs.internal.tree.Appended.{IsPrinted}
use Rattle.city_writer.proofs.EachPiece.{all_made, holds_of_all}
use Rattle.city_writer.proofs.tree.Appended.{after, comma, printed, value_ends}
use Rattle.city_writer.proofs.tree.TextsJoined.{texts_printed}

vertices-append : (xs ys : List Point)
    → tokens_of_vertices (xs ++ ys) ≡ tokens_of_vertices xs ++ tokens_of_vertices ys
vertices-append [] ys = refl
vertices-append (x ∷ xs) ys = simp (vertices-append xs ys, append_assoc)

-- between brackets
pub vertices_closed : (ps : List Point)
    → closing_items (items_of (map vertex_data ps)) ≡ tokens_of_vertices ps ++ end_array ∷ []
vertices_closed [] = refl
vertices_closed (p ∷ ps) = simp (vertices_closed ps, append_assoc)

reads-append : (xs ys : List Point) → VerticesReadBack xs → VerticesReadBack ys → VerticesReadBack (xs ++ ys)
reads-append [] ys h k = k
reads-append (x ∷ xs) ys h k = (h.0, reads-append xs ys h.1 k)

range-append : (xs ys : List Point) → list_all is_i64_point xs ≡ true → list_all is_i64_point ys ≡ true
    → list_all is_i64_point (xs ++ ys) ≡ true
range-append xs ys h k = list_all-append _ xs ys ∙ rw (h, k) refl

-- at least one vertex ends as a value does
after_vertices : (ps : List Point) → after true (tokens_of_vertices ps) ≡ true
after_vertices [] = refl
after_vertices (p ∷ ps) =
    fold-append (λ _ t. ends t) true (tokens_of (vertex_data p)) (tokens_of_vertices ps)
    ∙ ap (λ b. after b (tokens_of_vertices ps)) (value_ends true (outline (vertex_data p))) ∙ after_vertices ps

-- a comma stands before the text of vertices, if it needs one
vertices_after : (b : Bool) (ps : List Point) (text : List ℕ) → text ≡ print (tokens_of_vertices ps)
    → (comma b text ++ text ≡ print_from b (tokens_of_vertices ps))
    × (after b (tokens_of_vertices ps) ≡ (b || is_some_text text))
unfolding print_from
vertices_after true [] text is = rw is (refl, refl)
vertices_after false [] text is = rw is (refl, refl)
vertices_after true (p ∷ ps) text is = rw is (refl, after_vertices (p ∷ ps))
vertices_after false (p ∷ ps) text is = rw is (refl, after_vertices (p ∷ ps))

-- the pieces, put together, are the vertices
pub vertices_joined : {A : Type 0} (f : A → List ℕ) (len : ℕ) (ps : List Point) (os : List (Option A))
    → list_all is_some os ≡ true → EachPiece len ps os (λ ps a. AreVertices ps (f a))
    → AreVertices ps (joined_by_commas false os f)
vertices_joined f len ps os all each =
    let made = all_made (λ ps a. AreVertices ps (f a)) len ps os all each in
    record {
      printed = texts_printed tokens_of_vertices refl vertices-append vertices_after f (λ ps a vs. vs.printed) len ps os
          made;
      reads = holds_of_all VerticesReadBack tt reads-append (λ ps a vs. vs.reads) len ps os made;
      in_range = holds_of_all (λ ps. list_all is_i64_point ps ≡ true) refl range-append (λ ps a vs. vs.in_range) len ps
          os made;
    }

-- the text of a writer
pub vertices_written : (ps : List Point) (before text : List ℕ) (old ts : List Token) → before ≡ [] → old ≡ []
    → ts ≡ old ++ tokens_of_vertices ps → VerticesReadBack ps → list_all is_i64_point ps ≡ true
    → text ≡ before ++ print ts → tokens (print ts) ≡ ts → IsUtf8 (print ts) → AreVertices ps text
vertices_written ps before text old ts before_is old_is written_is reads in_range text_is again utf8 =
    let same : ts ≡ tokens_of_vertices ps = written_is ∙ ap (λ us. us ++ tokens_of_vertices ps) old_is in
    let printed_is : IsPrinted (print ts) ts = printed ts again utf8 in
    record {
      printed = rw (text_is, before_is) (subst (IsPrinted (print ts)) same printed_is);
      reads = reads;
      in_range = in_range;
    }
