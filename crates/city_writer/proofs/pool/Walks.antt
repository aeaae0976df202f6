-- Adding the points of parts, one part after the other.
use Rattle.city_writer.proofs.Prelude.{◌≡◌, ℕ, suc, ◌+◌, ◌<◌, List, ◌∷◌, ◌++◌, length, get_or, drop, drop-cons, add-one}
use Rattle.city_writer.proofs.Prelude.{[], refl, flat_map, Point, with_points, with_point}

pub with_points-append : (pool xs ys : List Point) → with_points pool (xs ++ ys) ≡ with_points (with_points pool xs) ys
with_points-append pool [] ys = refl
with_points-append pool (x ∷ xs) ys = with_points-append (with_point pool x) xs ys

pub walk_first : {X : Type 0} (f : X → List Point) (x : X) (rest : List X) (pool new : List Point)
    → new ≡ with_points pool (f x) → with_points pool (flat_map f (x ∷ rest)) ≡ with_points new (flat_map f rest)
walk_first f x rest pool new h = rw (h, ← with_points-append pool (f x) (flat_map f rest)) refl

pub walk_item : {X : Type 0} (f : X → List Point) (xs : List X) (i : ℕ) (x : X) (pool new : List Point) → i < length xs
    → x ≡ get_or xs i x → new ≡ with_points pool (f x)
    → with_points pool (flat_map f (drop i xs)) ≡ with_points new (flat_map f (drop (i + 1) xs))
walk_item f xs i x pool new lt at h =
    rw (add-one, drop-cons xs i x lt, ← at) (walk_first f x (drop (suc i) xs) pool new h)
