-- The parts of an option's value, and lists growing under an option.
use Rattle.city_tokens.proofs.Prelude.{◌≡◌, List, [], ◌∷◌, ◌++◌, Bool, true, Option, Some, None, IfSome, option_map}
use Rattle.city_tokens.proofs.Prelude.{refl, append_assoc, arith, option_and_then, if◌then◌else◌}
use Rattle.std.proofs.Common.{Result, Ok, Err}
use Rattle.std.specs.Prelude.{IfOk}
use Rattle.std.specs.Result.{result_ok}

pub and_then_some : {A B : Type 0} (g : A → Option B) (o : Option A) (y : B) → option_and_then g o ≡ Some y
    → (x : A) × (o ≡ Some x) × (g x ≡ Some y)
and_then_some g o y h = grind arith

pub map_some : {A B : Type 0} (f : A → B) (o : Option A) (y : B) → option_map f o ≡ Some y
    → (x : A) × (o ≡ Some x) × (y ≡ f x)
map_some f o y h = grind arith

pub if_some : {A : Type 0} (b : Bool) (o : Option A) (x : A) → (if b then o else None) ≡ Some x
    → (b ≡ true) × (o ≡ Some x)
if_some b o x h = grind arith

-- the first of the items to follow is the last of the items there
pub map_grown : {A : Type 0} (o : Option (List A)) (done : List A) (x : A)
    → option_map (λ xs. done ++ xs) (option_map (λ xs. x ∷ xs) o) ≡ option_map (λ xs. (done ++ x ∷ []) ++ xs) o
map_grown o done x = grind (arith, append_assoc)

-- a property of a result's value taken by `ok`
pub ok_holds : {T E : Type 0} (r : Result T E) (o : Option T) (P : T → Type 0) → o ≡ result_ok r
    → ((x : T) → r ≡ Ok x → P x) → IfSome o P
ok_holds (Ok x) o P is h = rw is (h x refl)
ok_holds (Err e) o P is h = rw is tt

-- a consequence of a call's promise of its value
pub ok_then : {T E : Type 0} (r : Result T E) (o : Option T) {P Q : T → Type 0} → o ≡ result_ok r → IfOk r P
    → ((x : T) → P x → Q x) → IfSome o Q
ok_then (Ok x) o is h f = rw is (f x h)
ok_then (Err e) o is h f = rw is tt

-- a call's promise of its value, if `ok` gave one
pub given : {A E : Type 0} (r : Result A E) (o : Option A) (x : A) (P : A → Type 0) → o ≡ result_ok r → o ≡ Some x
    → IfOk r P → P x
given (Ok y) o x P is some h = let same : y ≡ x = cc in rw same at h
given (Err e) o x P is some h = absurd (cc)

-- a consequence of two facts of an option's value
pub both_hold : {A : Type 0} (o : Option A) {P Q R : A → Type 0} → IfSome o P → IfSome o Q
    → ((x : A) → P x → Q x → R x) → IfSome o R
both_hold None p q f = tt
both_hold (Some x) p q f = f x p q
