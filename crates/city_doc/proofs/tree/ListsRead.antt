-- A written list is read again.
use Rattle.city_doc.proofs.Prelude.{◌≡◌, ℕ, List, ◌∷◌, map, Bool, true, Option, Some, None, refl, arith, [], ℤ}
use Rattle.city_doc.proofs.Prelude.{list_all, Data, Members, get_member, as_i64, of_integer, items_of, get_member-put}
use Rattle.city_doc.proofs.Prelude.{read_items, list_of, list_or_absent, list_data, put_list, triple_of, triple_data}
use Rattle.city_doc.proofs.Prelude.{is_i64, is_i64_triple}
use Rattle.std.proofs.lemmas.Bool.Decides.{nat_tests}

pub integer_read : (z : ℤ) → is_i64 z ≡ true → as_i64 (of_integer z) ≡ Some z
integer_read z h = grind arith

pub triple_read : (zs : List ℤ) → is_i64_triple zs ≡ true → triple_of (triple_data zs) ≡ Some zs
triple_read (x ∷ y ∷ z ∷ []) h = grind (arith, integer_read)
triple_read zs h = grind (arith, nat_tests)

module _ {A : Type 0} (read : Data → Option A) (f : A → Data) (ok : A → Bool) (each : (x : A) → ok x ≡ true
    → read (f x) ≡ Some x) where
  items_read : (xs : List A) → list_all ok xs ≡ true → read_items read (items_of (map f xs)) ≡ Some xs
  items_read [] h = refl
  items_read (x ∷ xs) h = grind (arith, each, items_read xs)

  pub list_read : (xs : List A) → list_all ok xs ≡ true → list_of read (list_data f xs) ≡ Some xs
  list_read xs h = items_read xs h

  pub put_list_read : (k : List ℕ) (xs : List A) (ms : Members) → list_all ok xs ≡ true → get_member k ms ≡ None
      → list_or_absent read (get_member k (put_list k f xs ms)) ≡ Some xs
  put_list_read k xs ms h none = grind (arith, get_member-put, list_read)

pub all_pass : {A : Type 0} (xs : List A) → list_all (λ x. true) xs ≡ true
all_pass [] = refl
all_pass (x ∷ xs) = all_pass xs
