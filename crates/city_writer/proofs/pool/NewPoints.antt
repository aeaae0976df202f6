-- The points of each piece that no piece before it has: put together, they are the points of all pieces.
use Rattle.city_writer.proofs.Prelude.{◌≡◌, ℕ, suc, ◌<◌, Bool, true, false, not, List, [], ◌∷◌, ◌++◌, Option, Some}
use Rattle.city_writer.proofs.Prelude.{None, refl, sym, ap, ◌∙◌, subst, arith, append_assoc, append-nil, length, get_or}
use Rattle.city_writer.proofs.Prelude.{filter, is_some, list_all, slice_get, AllByRecursion, Point, same_point}
use Rattle.city_writer.proofs.Prelude.{without_repeats, with_points, is_new, new_points, fun_ext}
use Rattle.std.proofs.Common.{IfSome, ap₂, cond, take}
use Rattle.std.specs.List.{IsDistinct}
use Rattle.city_writer.specs.internal.Pieces.{joined}
use Rattle.city_writer.specs.internal.Pool.{AreNew}
use Rattle.city_writer.proofs.pool.NumberedPoints.{is_in, in_pool}
use Rattle.city_writer.proofs.pool.PointsAgain.{AreOnce}
use Rattle.city_writer.proofs.pool.Repeats.{differs, with_points-is, pool_is_without_repeats}
use Rattle.city_writer.proofs.pool.Walks.{with_points-append}

-- ---- points with repeats taken out are the same points

kept_in : (f : Point → Bool) (p : Point) (ps : List Point) → is_in (filter f ps) p ≡ true → is_in ps p ≡ true
kept_in f p [] h = h
kept_in f p (q ∷ ps) h = let rest = kept_in f p ps in grind arith

among : (ps : List Point) (p : Point) → is_in (without_repeats ps) p ≡ true → is_in ps p ≡ true
among [] p h = h
among (q ∷ ps) p h =
    let kept = kept_in (differs q) p (without_repeats ps) in
    let rest = among ps p in
    grind arith

same_in : (ps : List Point) (p : Point) → is_new (without_repeats ps) p ≡ is_new ps p
same_in ps p =
    let more = in_pool ps p in
    let less = among ps p in
    grind arith

same_new : (ps : List Point) → is_new (without_repeats ps) ≡ is_new ps
same_new ps = fun_ext (same_in ps)

-- ---- each point once

module _ (f : Point → Bool) where
  kept_or : (P : Point → Type 0) (b : Bool) (p : Point) (ps : List Point) → P p → AllByRecursion P ps
      → AllByRecursion P (cond b (p ∷ ps) ps)
  kept_or P true p ps one rest = (one, rest)
  kept_or P false p ps one rest = rest

  all_kept : (P : Point → Type 0) (ps : List Point) → AllByRecursion P ps → AllByRecursion P (filter f ps)
  all_kept P [] h = tt
  all_kept P (p ∷ ps) h = kept_or P (f p) p (filter f ps) h.0 (all_kept P ps h.1)

  distinct_or : (b : Bool) (p : Point) (ps : List Point) → AllByRecursion (λ q. same_point p q ≡ false) ps
      → IsDistinct same_point ps → IsDistinct same_point (cond b (p ∷ ps) ps)
  unfolding IsDistinct
  distinct_or true p ps apart rest = (apart, rest)
  distinct_or false p ps apart rest = rest

  distinct_kept : (ps : List Point) → IsDistinct same_point ps → IsDistinct same_point (filter f ps)
  unfolding IsDistinct
  distinct_kept [] h = tt
  distinct_kept (p ∷ ps) h = distinct_or (f p) p (filter f ps) (all_kept _ ps h.0) (distinct_kept ps h.1)

apart_or : (p q : Point) (b : Bool) (qs : List Point) → same_point p q ≡ b
    → AllByRecursion (λ q. same_point p q ≡ false) qs
    → AllByRecursion (λ q. same_point p q ≡ false) (cond (not b) (q ∷ qs) qs)
apart_or p q true qs is rest = rest
apart_or p q false qs is rest = (is, rest)

apart : (p : Point) (qs : List Point) → AllByRecursion (λ q. same_point p q ≡ false) (filter (differs p) qs)
apart p [] = tt
apart p (q ∷ qs) = apart_or p q (same_point p q) (filter (differs p) qs) refl (apart p qs)

pub each_once : (ps : List Point) → IsDistinct same_point (without_repeats ps)
unfolding IsDistinct
each_once [] = tt
each_once (p ∷ ps) =
    (apart p (without_repeats ps), distinct_kept (differs p) (without_repeats ps) (each_once ps))

-- ---- piece by piece

one_more : (others ps : List Point) → without_repeats ps ≡ ps
    → without_repeats (others ++ ps) ≡ without_repeats others ++ filter (is_new others) ps
one_more others ps once =
    sym (pool_is_without_repeats (others ++ ps)) ∙ with_points-append [] others ps
    ∙ ap (λ pool. with_points pool ps) (pool_is_without_repeats others) ∙ with_points-is (without_repeats others) ps
    ∙ ap (λ qs. without_repeats others ++ filter (is_new (without_repeats others)) qs) once
    ∙ ap (λ f. without_repeats others ++ filter f ps) (same_new others)

-- the new points of all pieces are those of all pieces, each once
pub all_new : (others : List Point) (pieces : List (Option (List Point))) → AreOnce pieces
    → without_repeats (others ++ joined pieces (λ ps. ps)) ≡ without_repeats others ++ new_points others pieces
all_new others [] once = ap without_repeats (append-nil others) ∙ sym (append-nil _)
all_new others (None ∷ pieces) once = all_new others pieces once.1
all_new others (Some ps ∷ pieces) once =
    ap without_repeats (sym (append_assoc others ps (joined pieces (λ ps. ps))))
    ∙ all_new (others ++ ps) pieces once.1
    ∙ ap (λ qs. qs ++ new_points (others ++ ps) pieces) (one_more others ps once.0)
    ∙ append_assoc (without_repeats others) (filter (is_new others) ps) (new_points (others ++ ps) pieces)

-- results for each piece, put together
pub new_joined : {A : Type 0} (g : A → List Point) (others : List Point) (pieces : List (Option (List Point)))
    (rs : List (Option A)) → length rs ≡ length pieces → list_all is_some rs ≡ true
    → ((i : ℕ) (d : Option A) → i < length rs
    → IfSome (get_or rs i d) (λ r. AreNew (others ++ joined (take i pieces) (λ ps. ps)) (slice_get pieces i) (g r)))
    → (list_all is_some pieces ≡ true) × (joined rs g ≡ new_points others pieces)
new_joined g others [] [] len all each = (refl, refl)
new_joined g others [] (r ∷ rs) len all each = absurd (let none : ⊥ = omega (arith, len) in none)
new_joined g others (p ∷ pieces) [] len all each = absurd (let none : ⊥ = omega (arith, len) in none)
new_joined g others (p ∷ pieces) (None ∷ rs) len all each = absurd (cc)
new_joined g others (None ∷ pieces) (Some r ∷ rs) len all each = absurd (each 0 None (omega arith))
new_joined g others (Some ps ∷ pieces) (Some r ∷ rs) len all each =
    let first : g r ≡ filter (is_new others) ps =
    subst (λ os. g r ≡ filter (is_new os) ps) (append-nil others) (each 0 None (omega arith)) in
    let rest = new_joined g (others ++ ps) pieces rs (omega (arith, len)) all
    (λ i d less. subst (λ os. IfSome (get_or rs i d) (λ r. AreNew os (slice_get pieces i) (g r)))
    (sym (append_assoc others ps (joined (take i pieces) (λ ps. ps)))) (each (suc i) d (omega (arith, less)))) in
    (rest.0, ap₂ (λ a b. a ++ b) first rest.1)
