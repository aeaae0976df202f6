-- Members put in among those of a document's top: the place of each, and the kept ones.
use Rattle.city_texts.proofs.Prelude.{◌≡◌, ℕ, List, [], ◌∷◌, false, Some, refl, codes, Object, Vertex, IsVertex, Token}
use Rattle.city_texts.proofs.Prelude.{has_id, IsArrayOf, IsReadAs, IsTaken, IsPassed}
use Rattle.city_tokens.proofs.Members.{put_in, kept_in, put_own, kept_more, other_name}
use Rattle.city_tokens.specs.internal.Objects.{AreObjects}
use Rattle.city_texts.specs.declared.document.TopParts.{TopParts}
use Rattle.city_texts.specs.internal.Tops.{IsTopSoFar}

abbrev top_names : List (List ℕ)
top_names = codes "CityObjects" ∷ codes "vertices" ∷ []

module _ {old : TopParts} {name : List ℕ} {depth : ℕ} {before after : List Token} where
  pub top_objects : {objects : List (List ℕ × Object)} → name ≡ codes "CityObjects"
      → IsReadAs AreObjects objects depth before after
      → IsTaken IsTopSoFar old (record old { objects = Some objects }) name depth before after
  top_objects named read = (read.0, read.1, λ found kept h. rw named (search (put_in, put_own top_names, h, read)))

  pub top_vertices : {vertices : List Vertex} → name ≡ codes "vertices"
      → IsReadAs (IsArrayOf IsVertex) vertices depth before after
      → IsTaken IsTopSoFar old (record old { vertices = Some vertices }) name depth before after
  top_vertices named read = (read.0, read.1, λ found kept h. rw named (search (put_in, put_own top_names, h, read)))

pub top_kept : {old : TopParts} {name : List ℕ} {before : List Token} → (name ≡ codes "CityObjects" → ⊥)
    → (name ≡ codes "vertices" → ⊥)
    → IsPassed IsTopSoFar old old name before before
top_kept {name = name} objects vertices =
    let o = other_name name in
    let others : has_id top_names name ≡ false = rw (o _ objects, o _ vertices) refl in
    (refl, λ d found kept h. search (kept_in, kept_more top_names, others, h))
