-- When two ids are the same.
use Rattle.city_members.proofs.Prelude.{arith, ◌≡◌, ℕ, List, Bool, true, false, Ordering, Less, Equal, refl, ap, sym}
use Rattle.city_members.proofs.Prelude.{◌∙◌}
use Rattle.city_members.proofs.Prelude.{nat_cmp, is_eq, slice_cmp, nat_list_cmp_total, exact_bytes, same_id}
use Rattle.std.proofs.lemmas.Cmp.{tied_itself, eq_by_cmp_equiv}

-- a test, split
pub bool_cases : (b : Bool) {A : Type 0} → (b ≡ true → A) → (b ≡ false → A) → A
bool_cases b f g = grind arith

is_equal : (o : Ordering) → is_eq o ≡ true → o ≡ Equal
is_equal o h = grind arith

pub same_id_true : (id q : List ℕ) → same_id id q ≡ true → id ≡ q
same_id_true id q h = exact_bytes id q (is_equal (slice_cmp nat_cmp id q) h)

pub same_id_itself : (id : List ℕ) → same_id id id ≡ true
same_id_itself id = ap is_eq (tied_itself nat_list_cmp_total id)

pub same_id_back : (id q : List ℕ) → same_id id q ≡ same_id q id
same_id_back id q = (eq_by_cmp_equiv nat_list_cmp_total).symm id q

pub same_id_of_equal : (id q : List ℕ) → id ≡ q → same_id id q ≡ true
same_id_of_equal id q e = ap (same_id id) (sym e) ∙ same_id_itself id

-- two ids, one below the other, are different
pub below_is_apart : (q id : List ℕ) → slice_cmp nat_cmp q id ≡ Less → same_id id q ≡ false
below_is_apart q id h = same_id_back id q ∙ ap is_eq h

-- two ids are equal, or the test tells them apart
pub by_id : {P : Type 0} (id q : List ℕ) → (id ≡ q → P) → (same_id id q ≡ false → P) → P
by_id {P} id q here apart = by (same_id id q) refl
  where
    by : (b : Bool) → same_id id q ≡ b → P
    by b t = search (arith, same_id_true)
