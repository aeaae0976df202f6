-- Items written one after the other, each with its points added to a pool.
use Rattle.city_writer.proofs.Prelude.{◌≡◌, ℕ, ◌+◌, ◌<◌, List, ◌∷◌, ◌++◌, map, length, get_or, drop, sym, ap, ◌∙◌}
use Rattle.city_writer.proofs.Prelude.{subst, append_assoc, Token, Data, items_of, Point, tokens_of}
use Rattle.city_writer.proofs.Prelude.{closing_items, ItemsReadBack, with_points}
use Rattle.std.proofs.lemmas.List.{drop_more}
use Rattle.city_writer.proofs.pool.Walks.{with_points-append}

pub item_first : {X : Type 0} (xs : List X) (i : ℕ) (x : X) → i < length xs → x ≡ get_or xs i x
    → drop i xs ≡ x ∷ drop (i + 1) xs
item_first xs i x lt at = drop_more xs i x lt ∙ ap (λ y. y ∷ drop (i + 1) xs) (sym at)

module _ {X : Type 0} (f : X → Data) where
  -- the remaining items, and the closing bracket
  abbrev pub closing : List X → List Token
  closing xs = closing_items (items_of (map f xs))

  pub one_written : (xs : List X) (i : ℕ) (x : X) (start out next : List Token) → i < length xs → x ≡ get_or xs i x
      → start ++ closing xs ≡ out ++ closing (drop i xs) → next ≡ out ++ tokens_of (f x)
      → start ++ closing xs ≡ next ++ closing (drop (i + 1) xs)
  one_written xs i x start out next lt at left more =
      rw (left, item_first xs i x lt at, more) (simp append_assoc)

  abbrev pub ReadBack : List X → Type 0
  ReadBack xs = ItemsReadBack (items_of (map f xs))

module _ {X : Type 0} (points : X → List Point) (written : List Point → X → Data) where
  pub numbered_written : (xs : List X) (i : ℕ) (x : X) (pool new : List Point) (start out next : List Token)
      → i < length xs → x ≡ get_or xs i x → new ≡ with_points pool (points x)
      → ((later : List Point)
      → start ++ closing (written (with_points pool later)) xs ≡ out ++ closing (written (with_points pool later))
      (drop i xs)) → ((later : List Point) → next ≡ out ++ tokens_of (written (with_points new later) x))
      → (later : List Point)
      → start ++ closing (written (with_points new later)) xs ≡ next ++ closing (written (with_points new later))
      (drop (i + 1) xs)
  numbered_written xs i x pool new start out next lt at grown left more later =
      let same : with_points pool (points x ++ later) ≡ with_points new later = with_points-append pool (points x) later
      ∙ ap (λ ps. with_points ps later) (sym grown) in
      one_written (written (with_points new later)) xs i x start out next lt at
      (subst (λ ps. start ++ closing (written ps) xs ≡ out ++ closing (written ps) (drop i xs)) same
      (left (points x ++ later))) (more later)
