-- The number of a point in a pool of distinct points.
use Rattle.city_writer.proofs.Prelude.{◌≡◌, ℕ, zero, suc, Bool, true, false, List, [], ◌∷◌, Some, refl, sym, ◌∙◌, subst}
use Rattle.city_writer.proofs.Prelude.{arith, slice_get, list_any, AllByRecursion, Point, same_point, number_of}
use Rattle.city_writer.proofs.Prelude.{with_point}
use Rattle.std.specs.List.{IsDistinct}
use Rattle.city_writer.proofs.pool.Repeats.{same_point-symm, same_point-congr}

all_at : {X : Type 0} (P : X → Type 0) (xs : List X) (n : ℕ) (x : X) → AllByRecursion P xs → slice_get xs n ≡ Some x
    → P x
all_at P [] n x all at = absurd (cc)
all_at P (y ∷ xs) zero x all at = let same : y ≡ x = cc in subst P same all.0
all_at P (y ∷ xs) (suc n) x all at = all_at P xs n x all.1 at

pub number_at : {eq : Point → Point → Bool} (pool : List Point) (n : ℕ) (q p : Point) → IsDistinct eq pool
    → ((a b : Point) → eq a b ≡ same_point a b) → slice_get pool n ≡ Some q → same_point q p ≡ true
    → number_of pool p ≡ n
unfolding IsDistinct
number_at [] n q p distinct alike at same = absurd (cc)
number_at (x ∷ pool) zero q p distinct alike at same =
    let first : x ≡ q = cc in
    rw (same_point-symm p x, first, same) refl
number_at {eq} (x ∷ pool) (suc n) q p distinct alike at same =
    let apart = all_at (λ y. eq x y ≡ false) pool n q distinct.0 at in
    let turned = sym (same_point-congr q p x same) ∙ same_point-symm q x in
    let other : same_point p x ≡ false = turned ∙ sym (alike x q) ∙ apart in
    let rest = number_at pool n q p distinct.1 alike at same in
    rw other (omega arith)

there_at : (pool : List Point) (n : ℕ) (q p : Point) → slice_get pool n ≡ Some q → same_point q p ≡ true
    → list_any (same_point p) pool ≡ true
there_at [] n q p at same = absurd (cc)
there_at (x ∷ pool) zero q p at same =
    let first : x ≡ q = cc in
    rw (same_point-symm p x, first, same) refl
there_at (x ∷ pool) (suc n) q p at same = grind (arith, there_at pool n q p)

-- a point of the pool changes nothing
pub kept_at : (pool : List Point) (n : ℕ) (q p : Point) → slice_get pool n ≡ Some q → same_point q p ≡ true
    → with_point pool p ≡ pool
kept_at pool n q p at same = rw (there_at pool n q p at same) refl

all_apart : {eq : Point → Point → Bool} (p : Point) (ps : List Point) → AllByRecursion (λ q. eq p q ≡ false) ps
    → ((a b : Point) → eq a b ≡ same_point a b) → AllByRecursion (λ q. same_point p q ≡ false) ps
all_apart p [] h alike = tt
all_apart p (q ∷ ps) h alike = (sym (alike p q) ∙ h.0, all_apart p ps h.1 alike)

-- distinct points by one test are distinct by an equal test
pub distinct_alike : {eq : Point → Point → Bool} (ps : List Point) → IsDistinct eq ps
    → ((a b : Point) → eq a b ≡ same_point a b) → IsDistinct same_point ps
unfolding IsDistinct
distinct_alike [] h alike = tt
distinct_alike (p ∷ ps) h alike = (all_apart p ps h.0 alike, distinct_alike ps h.1 alike)
