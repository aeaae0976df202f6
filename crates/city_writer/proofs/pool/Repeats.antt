-- Points added one after the other make the list of all of them with later repeats taken out.
use Rattle.city_writer.proofs.Prelude.{◌≡◌, Bool, true, not, List, ◌∷◌, ◌++◌, refl, sym, ap, ◌∙◌, append_assoc, []}
use Rattle.city_writer.proofs.Prelude.{append-nil, arith, filter, list_any, Point, same_point, without_repeats}
use Rattle.city_writer.proofs.Prelude.{with_points, is_new, fun_ext, and_parts}
use Rattle.std.proofs.Common.{◌&&◌}
use Rattle.std.proofs.lemmas.List.Folds.{list_any-append}
use Rattle.std.proofs.lemmas.Cmp.{int_eq_equiv}
use Rattle.std.specs.Ordering.{int_eq}

pub same_point-symm : (p q : Point) → same_point p q ≡ same_point q p
same_point-symm p q = grind (arith, int_eq_equiv.symm)

-- equal points can't be told apart
pub same_point-congr : (p q r : Point) → same_point p q ≡ true → same_point p r ≡ same_point q r
same_point-congr p q r h =
    let two = and_parts (int_eq p.x q.x && int_eq p.y q.y) (int_eq p.z q.z) h in
    let one = and_parts (int_eq p.x q.x) (int_eq p.y q.y) two.0 in
    rw (
      int_eq_equiv.congr p.x q.x r.x one.0,
      int_eq_equiv.congr p.y q.y r.y one.1,
      int_eq_equiv.congr p.z q.z r.z two.1,
    ) refl

pub same_point-alike : (p q : Point) → same_point p q ≡ true → same_point p ≡ same_point q
same_point-alike p q h = fun_ext (λ r. same_point-congr p q r h)

abbrev pub differs : Point → Point → Bool
differs p q = not (same_point p q)

filter_two : {X : Type 0} (f g h : X → Bool) → ((x : X) → h x ≡ (g x && f x)) → (xs : List X)
    → filter h xs ≡ filter f (filter g xs)
filter_two f g h same [] = refl
filter_two f g h same (x ∷ xs) = grind (arith, same, filter_two f g h same xs)

filter_nothing : (xs : List Point) → filter (is_new []) xs ≡ xs
filter_nothing [] = refl
filter_nothing (x ∷ xs) = ap (λ ys. x ∷ ys) (filter_nothing xs)

-- a point equal to p isn't new if p isn't
new_differs : (pool : List Point) (p q : Point) → list_any (same_point p) pool ≡ true
    → is_new pool q ≡ (differs p q && is_new pool q)
new_differs pool p q there = grind (arith, same_point-alike)

-- a point is new with p in the pool exactly if it is new and not p
new_beside : (pool : List Point) (p q : Point) → is_new (pool ++ p ∷ []) q ≡ (differs p q && is_new pool q)
new_beside pool p q =
    let all = list_any-append (same_point q) pool (p ∷ []) in
    let turned = same_point-symm p q in
    grind arith

pub with_points-is : (pool ps : List Point) → with_points pool ps ≡ pool ++ filter (is_new pool) (without_repeats ps)
with_points-is pool [] = sym (append-nil pool)
with_points-is pool (p ∷ ps) =
    let rest = without_repeats ps in
    let same = λ (there : list_any (same_point p) pool ≡ true).
    filter_two (is_new pool) (differs p) (is_new pool) (λ q. new_differs pool p q there) rest in
    let beside = filter_two (is_new pool) (differs p) (is_new (pool ++ p ∷ [])) (new_beside pool p) rest in
    let assoc = append_assoc pool (p ∷ []) (filter (is_new pool) (filter (differs p) rest)) in
    grind (arith, with_points-is pool ps, with_points-is (pool ++ p ∷ []) ps)

-- a pool begun empty has each point once, in the order of their first occurrences
pub pool_is_without_repeats : (ps : List Point) → with_points [] ps ≡ without_repeats ps
pool_is_without_repeats ps = with_points-is [] ps ∙ filter_nothing (without_repeats ps)
