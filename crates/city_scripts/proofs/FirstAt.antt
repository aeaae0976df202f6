-- The result of a search: something at an item, and nothing before it.
use Rattle.city_scripts.proofs.Prelude.{◌≡◌, ℕ, zero, suc, ◌+◌, ◌<◌, ◌≤◌, List, [], ◌∷◌, length, map, drop, get_or}
use Rattle.city_scripts.proofs.Prelude.{Option, Some, None, refl, sym, ap, ◌∙◌, arith, add-one, drop-cons, slice_get}
use Rattle.city_scripts.proofs.Prelude.{first_at}
use Rattle.std.proofs.Common.{drop_of_length-le}
use Rattle.std.specs.Option.{option_or}

-- the item at this index has f, and no item before it has anything
pub record IsFirst {A B : Type 0} (find : ℕ → A → Option B) (n : ℕ) (xs : List A) (f : B) : Type 0 where
  pub index : ℕ
  pub x : A
  pub there : slice_get xs index ≡ Some x
  pub found : find (n + index) x ≡ Some f
  pub before : (j : ℕ) (y : A) → j < index → slice_get xs j ≡ Some y → find (n + j) y ≡ None

step_from : {A B : Type 0} (find : ℕ → A → Option B) (P : ℕ → Type 0) (n : ℕ) (x : A) (xs : List A) → find n x ≡ None
    → ((j : ℕ) (y : A) → P (suc j) → slice_get xs j ≡ Some y → find (n + 1 + j) y ≡ None)
    → (j : ℕ) (y : A) → P j → slice_get (x ∷ xs) j ≡ Some y → find (n + j) y ≡ None
step_from find P n x xs here rest zero y p at = grind arith
step_from find P n x xs here rest (suc j) y p at = let none = rest j y p at in grind arith

first_step : {A B : Type 0} (find : ℕ → A → Option B) (n : ℕ) (x : A) (xs : List A) (f : B) (o : Option B)
    → find n x ≡ o → option_or o (first_at find (n + 1) xs) ≡ Some f
    → (first_at find (n + 1) xs ≡ Some f → IsFirst find (n + 1) xs f) → IsFirst find n (x ∷ xs) f
first_step find n x xs f None is h ih =
    let r = ih h in
    record {
      index = suc r.index;
      x = r.x;
      there = r.there;
      found = grind (arith, r.found);
      before = λ j y lower at. step_from find (λ k. k < suc r.index) n x xs is
          (λ k z less. r.before k z (omega arith)) j y lower at;
    }
first_step find n x xs f (Some g) is h ih = record {
  index = 0;
  x = x;
  there = refl;
  found = grind arith;
  before = λ j y lower at. absurd (omega arith);
}

pub first_at-is : {A B : Type 0} (find : ℕ → A → Option B) (n : ℕ) (xs : List A) (f : B) → first_at find n xs ≡ Some f
    → IsFirst find n xs f
first_at-is find n [] f h = absurd (let no : ⊥ = cc in no)
first_at-is find n (x ∷ xs) f h = first_step find n x xs f (find n x) refl h (first_at-is find (n + 1) xs f)

none_step : {A B : Type 0} (find : ℕ → A → Option B) (n : ℕ) (x : A) (xs : List A) (o : Option B) → find n x ≡ o
    → option_or o (first_at find (n + 1) xs) ≡ None
    → (first_at find (n + 1) xs ≡ None → (j : ℕ) (y : A) → slice_get xs j ≡ Some y → find (n + 1 + j) y ≡ None)
    → (j : ℕ) (y : A) → slice_get (x ∷ xs) j ≡ Some y → find (n + j) y ≡ None
none_step find n x xs None is h ih j y at =
    step_from find (λ k. Unit {0}) n x xs is (λ k z all. ih h k z) j y tt at
none_step find n x xs (Some g) is h ih j y at = absurd (grind arith)

-- if nothing is found, no item has anything
pub first_at-none : {A B : Type 0} (find : ℕ → A → Option B) (n : ℕ) (xs : List A) → first_at find n xs ≡ None
    → (j : ℕ) (y : A) → slice_get xs j ≡ Some y → find (n + j) y ≡ None
first_at-none find n [] h j y at = absurd (let no : ⊥ = cc in no)
first_at-none find n (x ∷ xs) h j y at = none_step find n x xs (find n x) refl h (first_at-none find (n + 1) xs) j y at

-- the items from one on, for a search in place
from_here : {A C : Type 0} (f : C → A) (xs : List C) (i : ℕ) (x : C) → i < length xs → x ≡ get_or xs i x
    → map f (drop i xs) ≡ f x ∷ map f (drop (i + 1) xs)
from_here f xs i x h at = ap (map f) (drop-cons xs i x h) ∙ ap (λ y. f y ∷ map f (drop (suc i) xs)) (sym at)
    ∙ ap (λ k. f x ∷ map f (drop k xs)) (sym (add-one i))

pub first_at-drop : {A B C : Type 0} (find : ℕ → A → Option B) (f : C → A) (all : Option B) (xs : List C) (i : ℕ)
    (x : C) → i < length xs → x ≡ get_or xs i x
    → all ≡ first_at find i (map f (drop i xs)) → find i (f x) ≡ None
    → all ≡ first_at find (i + 1) (map f (drop (i + 1) xs))
first_at-drop find f all xs i x h at is none = is ∙ ap (first_at find i) (from_here f xs i x h at) ∙ rw none refl

pub first_at-found : {A B C : Type 0} (find : ℕ → A → Option B) (f : C → A) (all : Option B) (xs : List C) (i : ℕ)
    (x : C) (y : B) → i < length xs → x ≡ get_or xs i x
    → all ≡ first_at find i (map f (drop i xs)) → find i (f x) ≡ Some y → all ≡ Some y
first_at-found find f all xs i x y h at is found = is ∙ ap (first_at find i) (from_here f xs i x h at) ∙ rw found refl

pub first_at-end : {A B C : Type 0} (find : ℕ → A → Option B) (f : C → A) (all : Option B) (xs : List C) (i : ℕ)
    → length xs ≤ i → all ≡ first_at find i (map f (drop i xs)) → all ≡ None
first_at-end find f all xs i h is = is ∙ ap (λ ys. first_at find i (map f ys)) (drop_of_length-le xs h)
