-- Lists read item by item, and lists of three whole numbers.
use Rattle.city_tokens.proofs.Prelude.{◌≡◌, ℕ, zero, suc, List, [], ◌∷◌, length, Bool, true, Option, Some, None}
use Rattle.city_tokens.proofs.Prelude.{option_map, refl, arith, ℤ, option_and_then, is_some, if◌then◌else◌, list_all}
use Rattle.city_tokens.proofs.Prelude.{all_read, read_items, Data, Items, no_items, item, Point, point_of, all_triples}
use Rattle.std.specs.Prelude.{slice_get}
use Rattle.serde_json.specs.Find.{at}
use Rattle.city_tokens.specs.tree.Triples.{are_triples, triple_of, points_of}

pub in_all : {A : Type 0} (test : A → Bool) (xs : List A) (n : ℕ) (x : A) → list_all test xs ≡ true
    → slice_get xs n ≡ Some x → test x ≡ true
in_all test (y ∷ ys) (suc n) x h at = grind (arith, in_all test ys n x)
in_all test _ n x h at = grind arith

pub all_read-cons : {A B : Type 0} (read : A → Option B) (x : A) (xs : List A) (ys : List B)
    → all_read read (x ∷ xs) ≡ Some ys
    → (z : B) × (zs : List B) × (read x ≡ Some z) × (all_read read xs ≡ Some zs) × (ys ≡ z ∷ zs)
all_read-cons read x xs ys h = grind arith

pub all_read-nil : {A B : Type 0} (read : A → Option B) (ys : List B) → all_read read [] ≡ Some ys → ys ≡ []
all_read-nil read ys h = cc

-- as many are read as there are
pub all_read-length : {A B : Type 0} (read : A → Option B) (xs : List A) (ys : List B) → all_read read xs ≡ Some ys
    → length ys ≡ length xs
all_read-length read [] ys h = grind arith
all_read-length read (x ∷ xs) ys h = grind (arith, all_read-length read xs)

-- if each item is read, so is the list
pub all_read-some : {A B : Type 0} (read : A → Option B) (xs : List A)
    → ((n : ℕ) (x : A) → slice_get xs n ≡ Some x → (y : B) × (read x ≡ Some y))
    → (ys : List B) × (all_read read xs ≡ Some ys)
all_read-some read [] each = ([], refl)
all_read-some read (x ∷ xs) each =
    let y = each zero x refl in
    let ys = all_read-some read xs (λ n. each (suc n)) in
    (y.0 ∷ ys.0, rw (y.1, ys.1) refl)

-- values read of items with one property have another
pub all_read-all : {A B : Type 0} (read : A → Option B) (ok : A → Bool) (test : B → Bool)
    → ((x : A) (y : B) → ok x ≡ true → read x ≡ Some y → test y ≡ true)
    → (xs : List A) (ys : List B) → list_all ok xs ≡ true → all_read read xs ≡ Some ys → list_all test ys ≡ true
all_read-all read ok test one [] ys pass h = grind arith
all_read-all read ok test one (x ∷ xs) ys pass h = grind (arith, all_read-all read ok test one xs)

pub three_some : {A B : Type 0} (make : ℤ → ℤ → ℤ → A) (other : ℤ → ℤ → ℤ → B) (long : Bool) (a b c : Option ℤ)
    → is_some (if long then None else option_and_then (λ x. option_and_then (λ y. option_map (λ z. make x y z) c) b) a)
    ≡ true
    → is_some (if long then None else option_and_then (λ x. option_and_then (λ y. option_map (λ z. other x y z) c) b) a)
    ≡ true
three_some make other long a b c h = grind arith

triple_some : (d : Data) (p : Point) → point_of d ≡ Some p → is_some (triple_of d) ≡ true
triple_some d p h = grind arith

triples : (ds : Items) (ps : List Point) → read_items point_of ds ≡ Some ps → all_triples ds ≡ true
triples no_items ps h = refl
triples (item d ds) ps h = grind (arith, triple_some, triples ds)

pub are_triples-read : (d : Data) (ps : List Point) → points_of d ≡ Some ps → are_triples d ≡ true
are_triples-read d ps h = grind (arith, triples)
