-- Points in a pool, and the points at their numbers.
use Rattle.city_writer.proofs.Prelude.{◌≡◌, Bool, true, false, not, List, ◌∷◌, [], sym, Some}
use Rattle.city_writer.proofs.Prelude.{refl, ap, arith, ◌∙◌, filter, flat_map, slice_get, list_any}
use Rattle.city_writer.proofs.Prelude.{list_all, Decides-int_eq, list_all-append}
use Rattle.city_writer.proofs.Prelude.{Point, same_point, without_repeats, number_of}
use Rattle.city_writer.proofs.pool.KeptNumbers.{same_itself}
use Rattle.city_writer.proofs.pool.Repeats.{same_point-symm, same_point-congr}

abbrev pub is_in : List Point → Point → Bool
is_in pool p = list_any (same_point p) pool

abbrev pub are_in : List Point → List Point → Bool
are_in pool ps = list_all (is_in pool) ps

pub same_point-is : (p q : Point) → same_point p q ≡ true → p ≡ q
same_point-is p q h = grind (arith, Decides-int_eq)

any_kept : {X : Type 0} (f g : X → Bool) → ((x : X) → f x ≡ true → g x ≡ true) → (xs : List X)
    → list_any f (filter g xs) ≡ list_any f xs
any_kept f g each [] = refl
any_kept f g each (x ∷ xs) = let one = each x in let rest = any_kept f g each xs in grind arith

-- a point stays when another one is taken out
still_in : (p q : Point) (ps : List Point) → same_point p q ≡ false → is_in ps p ≡ true
    → is_in (filter (λ r. not (same_point q r)) ps) p ≡ true
still_in p q ps apart h =
    any_kept (same_point p) (λ r. not (same_point q r))
    (λ r e. ap not (same_point-symm q r ∙ sym (same_point-congr p r q e) ∙ apart)) ps ∙ h

pub in_pool : (ps : List Point) (p : Point) → is_in ps p ≡ true → is_in (without_repeats ps) p ≡ true
in_pool [] p h = h
in_pool (q ∷ ps) p h =
    let rest = in_pool ps p in
    let still = still_in p q (without_repeats ps) in
    grind arith

all_in_more : (pool : List Point) (q : Point) (ps : List Point) → are_in pool ps ≡ true → are_in (q ∷ pool) ps ≡ true
all_in_more pool q [] h = refl
all_in_more pool q (p ∷ ps) h = grind (arith, all_in_more pool q ps)

each_in_itself : (ps : List Point) → are_in ps ps ≡ true
each_in_itself [] = refl
each_in_itself (p ∷ ps) = grind (arith, same_itself, all_in_more, each_in_itself ps)

all_in_pool : (ps qs : List Point) → are_in ps qs ≡ true → are_in (without_repeats ps) qs ≡ true
all_in_pool ps [] h = refl
all_in_pool ps (q ∷ qs) h = grind (arith, in_pool, all_in_pool ps qs)

-- each of the points is among them with later repeats taken out
pub points_in_pool : (ps : List Point) → are_in (without_repeats ps) ps ≡ true
points_in_pool ps = all_in_pool ps ps (each_in_itself ps)

pub parts_in : {X : Type 0} (pool : List Point) (f : X → List Point) (xs : List X) → are_in pool (flat_map f xs) ≡ true
    → list_all (λ x. are_in pool (f x)) xs ≡ true
parts_in pool f [] h = refl
parts_in pool f (x ∷ xs) h = grind (arith, list_all-append, parts_in pool f xs)

-- the point at the number of a point is the point
pub found : (pool : List Point) (p : Point) → is_in pool p ≡ true → slice_get pool (number_of pool p) ≡ Some p
found [] p h = grind arith
found (q ∷ pool) p h = let rest = found pool p in let same = same_point-is p q in grind arith
