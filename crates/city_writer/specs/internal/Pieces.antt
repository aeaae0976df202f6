-- Lists in pieces for several workers.
use Rattle.std.specs.Prelude.{◌≡◌, ◌++◌, ◌∷◌, [], ◌||◌, ◌&&◌, ℕ, List, Bool, true, false, cond, Option, Some, None}
use Rattle.std.specs.Prelude.{IfSome, take, drop}

-- each piece has a result, and the pieces are the whole list
abbrev pub EachPiece : {X A : Type 0} → ℕ → List X → List (Option A) → (List X → A → Type 0) → Type 0
EachPiece len xs [] P = xs ≡ []
EachPiece len xs (o ∷ os) P = IfSome o (P (take len xs)) × EachPiece len (drop len xs) os P

-- the results, one after the other
abbrev pub joined : {A X : Type 0} → List (Option A) → (A → List X) → List X
joined [] f = []
joined (None ∷ os) f = joined os f
joined (Some a ∷ os) f = f a ++ joined os f

abbrev pub is_some_text : List ℕ → Bool
is_some_text [] = false
is_some_text (x ∷ xs) = true

-- texts one after the other, with a comma between texts with bytes, and before the first of them if so
abbrev pub joined_by_commas : {A : Type 0} → Bool → List (Option A) → (A → List ℕ) → List ℕ
joined_by_commas after [] f = []
joined_by_commas after (None ∷ os) f = joined_by_commas after os f
joined_by_commas after (Some a ∷ os) f =
    cond (after && is_some_text (f a)) (44 ∷ []) [] ++ (f a ++ joined_by_commas (after || is_some_text (f a)) os f)
