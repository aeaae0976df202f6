-- What stands behind the objects of a city, with the vertices in pieces.
use Rattle.city_writer.proofs.Prelude.{◌≡◌, ℕ, List, [], ◌∷◌, ◌++◌, refl, sym, ap, ◌∙◌, subst, append_assoc, Token}
use Rattle.city_writer.proofs.Prelude.{end_object, Members, Frame, Point, tokens_of_members}
use Rattle.json.specs.Token.{begin_array, end_array}
use Rattle.city_writer.specs.internal.document.Pieces.{frame_own}
use Rattle.city_writer.specs.internal.document.Rest.{before_vertices, behind_vertices}
use Rattle.city_writer.specs.internal.shape.InTurn.{tokens_of_vertices}
use Rattle.city_writer.specs.internal.tree.Appended.{IsPrinted, IsAppended}
use Rattle.city_writer.specs.internal.tree.OwnMembers.{written}
use Rattle.city_writer.proofs.shape.VerticesInTurn.{vertices_closed}
use Rattle.city_writer.proofs.tree.Appended.{after_begin_array, before_end_array, printed-append}

module _ (kept : Members) (ps : List Point) (f : Frame) where
  abbrev before : List Token
  before = before_vertices kept f (end_object ∷ [])

  abbrev behind : Members → List Token
  behind left = tokens_of_members left ++ end_object ∷ []

  rest_parted : ((before ++ begin_array ∷ []) ++ tokens_of_vertices ps) ++ (end_array ∷ behind (behind_vertices kept))
      ≡ written kept 0 (frame_own ps f) (end_object ∷ [])
  rest_parted =
      let us = behind (behind_vertices kept) in
      ap (λ ts. ts ++ (end_array ∷ us)) (append_assoc before (begin_array ∷ []) (tokens_of_vertices ps))
      ∙ append_assoc before (begin_array ∷ tokens_of_vertices ps) (end_array ∷ us)
      ∙ ap (λ ts. before ++ (begin_array ∷ ts)) (sym (append_assoc (tokens_of_vertices ps) (end_array ∷ []) us)
      ∙ ap (λ ts. ts ++ us) (sym (vertices_closed ps)))
      ∙ sym (append_assoc before (begin_array ∷ _) us)

  -- the part before the vertices, the vertices and the part behind them
  pub rest_appended : (left : Members) (bytes head vertices texts all : List ℕ)
      → IsAppended bytes (before ++ begin_array ∷ []) head → IsPrinted vertices (tokens_of_vertices ps)
      → texts ≡ head ++ vertices → left ≡ behind_vertices kept
      → IsAppended texts (end_array ∷ behind left) all
      → IsAppended bytes (written kept 0 (frame_own ps f) (end_object ∷ [])) all
  rest_appended left bytes head vertices texts all h v texts_are left_is e = record {
    text = (h.text ++ vertices) ++ e.text;
    printed = subst (IsPrinted ((h.text ++ vertices) ++ e.text)) rest_parted
        (printed-append _ _ (h.text ++ vertices) e.text
        (printed-append _ _ h.text vertices h.printed v (after_begin_array before _))
        (subst (λ ms. IsPrinted e.text (end_array ∷ behind ms)) left_is e.printed) (before_end_array _ _));
    all_is = e.all_is ∙ ap (λ b. b ++ e.text) (texts_are ∙ ap (λ b. b ++ vertices) h.all_is)
        ∙ simp append_assoc refl;
  }
