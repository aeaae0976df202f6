-- Points added piece by piece, each once for a piece.
use Rattle.city_writer.proofs.Prelude.{◌≡◌, ℕ, Bool, true, not, List, [], ◌∷◌, ◌++◌, Option, Some, None, refl, sym, ap}
use Rattle.city_writer.proofs.Prelude.{◌∙◌, arith, drop}
use Rattle.city_writer.proofs.Prelude.{AllByRecursion, filter, and_parts, Entries, Point, same_point, without_repeats}
use Rattle.city_writer.proofs.Prelude.{is_new, with_points}
use Rattle.city_writer.proofs.Prelude.{object_points}
use Rattle.std.proofs.Common.{IfSome, take}
use Rattle.std.proofs.lemmas.Grind.{flat_map-append}
use Rattle.std.proofs.lemmas.List.{take-append-drop}
use Rattle.city_writer.specs.internal.Pieces.{joined}
use Rattle.city_writer.proofs.EachPiece.{EachMade}
use Rattle.city_writer.specs.internal.document.Pieces.{IsListed}
use Rattle.city_writer.specs.internal.object.InTurn.{entry_points}
use Rattle.city_writer.proofs.pool.NumberedPoints.{is_in, are_in}
use Rattle.city_writer.proofs.pool.Repeats.{differs, same_point-alike, with_points-is, pool_is_without_repeats}
use Rattle.city_writer.proofs.pool.Walks.{with_points-append}

filter_twice : (f : Point → Bool) (xs : List Point) → filter f (filter f xs) ≡ filter f xs
filter_twice f [] = refl
filter_twice f (x ∷ xs) = grind (arith, filter_twice f xs)

filter_swap : (f g : Point → Bool) (xs : List Point) → filter f (filter g xs) ≡ filter g (filter f xs)
filter_swap f g [] = refl
filter_swap f g (x ∷ xs) = grind (arith, filter_swap f g xs)

once_without : (p : Point) (ps : List Point)
    → without_repeats (filter (differs p) ps) ≡ filter (differs p) (without_repeats ps)
once_without p [] = refl
once_without p (q ∷ ps) =
    let rest = once_without p ps in
    let swapped = filter_swap (differs p) (differs q) (without_repeats ps) in
    let twice = filter_twice (differs p) (without_repeats ps) in
    let alike = λ (h : same_point p q ≡ true). ap
    (λ f. filter (differs p) (filter (λ r. not (f r)) (without_repeats ps)))
    (sym (same_point-alike p q h)) in
    grind arith

once_again : (ps : List Point) → without_repeats (without_repeats ps) ≡ without_repeats ps
once_again [] = refl
once_again (p ∷ ps) =
    ap (λ qs. p ∷ filter (differs p) qs) (once_without p (without_repeats ps))
    ∙ ap (λ qs. p ∷ qs) (filter_twice (differs p) (without_repeats (without_repeats ps))
    ∙ ap (filter (differs p)) (once_again ps))

-- points may be added each once
pub with_points-once : (pool ps : List Point) → with_points pool (with_points [] ps) ≡ with_points pool ps
with_points-once pool ps =
    ap (with_points pool) (pool_is_without_repeats ps) ∙ with_points-is pool (without_repeats ps)
    ∙ ap (λ qs. pool ++ filter (is_new pool) qs) (once_again ps) ∙ sym (with_points-is pool ps)

-- points of the pool change nothing
pub points_known : (pool ps : List Point) → are_in pool ps ≡ true → with_points pool ps ≡ pool
points_known pool [] h = refl
points_known pool (p ∷ ps) h =
    let parts = and_parts (is_in pool p) (are_in pool ps) h in
    rw parts.0 (points_known pool ps parts.1)

pub points_parted : (n : ℕ) (es : Entries) → entry_points (take n es) ++ entry_points (drop n es) ≡ entry_points es
points_parted n es =
    sym (flat_map-append (λ e. object_points e.1) (take n es) (drop n es)) ∙ ap entry_points (take-append-drop n es)

pub points_joined : {A : Type 0} (f : A → List Point) (len : ℕ) (es : Entries) (os : List (Option A))
    (pool : List Point)
    → EachMade len es os (λ es a. IsListed es (f a))
    → with_points pool (joined os f) ≡ with_points pool (entry_points es)
points_joined f len es [] pool h = ap (λ es. with_points pool (entry_points es)) (sym h)
points_joined f len es (None ∷ os) pool h = absurd h.0
points_joined f len es (Some a ∷ os) pool h =
    let first = entry_points (take len es) in
    with_points-append pool (f a) (joined os f)
    ∙ ap (λ ps. with_points (with_points pool ps) (joined os f)) h.0
    ∙ ap (λ ps. with_points ps (joined os f)) (with_points-once pool first)
    ∙ points_joined f len (drop len es) os (with_points pool first) h.1
    ∙ sym (with_points-append pool first (entry_points (drop len es)))
    ∙ ap (with_points pool) (points_parted len es)

-- the points of each piece stand there once
abbrev pub AreOnce : List (Option (List Point)) → Type 0
AreOnce pieces = AllByRecursion (λ o. IfSome o (λ ps. without_repeats ps ≡ ps)) pieces

pub listed_once : (len : ℕ) (es : Entries) (pieces : List (Option (List Point))) → EachMade len es pieces IsListed
    → AreOnce pieces
listed_once len es [] h = tt
listed_once len es (None ∷ pieces) h = absurd h.0
listed_once len es (Some ps ∷ pieces) h =
    let points = entry_points (take len es) in
    let is = h.0 ∙ pool_is_without_repeats points in
    (ap without_repeats is ∙ once_again points ∙ sym is, listed_once len (drop len es) pieces h.1)
