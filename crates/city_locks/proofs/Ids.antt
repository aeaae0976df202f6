-- Lookups by an id.
use Rattle.city_locks.proofs.Prelude.{arith, rules, true, ◌≡◌, ℕ, cond, false, List, ◌||◌, ◌+◌, ◌<◌, ◌==◌, length, take}
use Rattle.city_locks.proofs.Prelude.{get_or, is_at, same_id, has_id, same_id_true, same_id_back}
use Rattle.std.specs.Ordering.{nat_cmp}
use Rattle.std.proofs.lemmas.List.Folds.{list_any_more}

-- another stamp is at another place
pub stamp_apart : (s t : ℕ) → (s == t) ≡ false → is_at (nat_cmp s) t ≡ false
stamp_apart s t e = grind arith

pub stamp_here : (s : ℕ) → is_at (nat_cmp s) s ≡ true
stamp_here s = search rules

-- a choice at one id, equal to the old value there
pub same_at_id : {A : Type 0} (f : List ℕ → A) (x : A) (id q : List ℕ) → x ≡ f id → f q ≡ cond (same_id id q) x (f q)
same_at_id {A} f x id q e = grind (arith, same_id_true id q)

-- one more id of a list
pub has_id_more : (ids : List (List ℕ)) (i : ℕ) (id q : List ℕ) → i < length ids → id ≡ get_or ids i id →
    has_id (take (i + 1) ids) q ≡ (has_id (take i ids) q || same_id id q)
has_id_more ids i id q lt e = grind (arith, list_any_more (same_id q) ids i id, same_id_back q id)
