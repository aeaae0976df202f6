-- Bytes that no number has.
use Rattle.std.proofs.Common.{◌≡◌, ℕ, suc, ◌+◌, ◌≤◌, Bool, true, false, cond, ◌==◌, ◌||◌, List, [], ◌∷◌, ◌++◌, drop}
use Rattle.std.proofs.Common.{Option, Some, None, option_and_then, refl, sym, ap, ◌∙◌, arith, subst}
use Rattle.std.proofs.lemmas.Bool.{eqb-true, and_parts, leb-true}
use Rattle.std.specs.List.{prefix_len}
use Rattle.std.specs.Char.{is_ascii_digit}
use Rattle.json.specs.Word.{head, after_digits, after_minus, after_sign, after_whole, after_fraction, after_exponent}
use Rattle.json.specs.Word.{after_number}
use Rattle.json.specs.Print.{IsNumber}

-- how many bytes of a text pass the test
abbrev pub count : (ℕ → Bool) → List ℕ → ℕ
count f [] = 0
count f (x ∷ xs) = cond (f x) 1 0 + count f xs

pub count-append : (f : ℕ → Bool) (xs ys : List ℕ) → count f (xs ++ ys) ≡ count f xs + count f ys
count-append f [] ys = omega arith
count-append f (x ∷ xs) ys = omega (arith, count-append f xs ys)

pub one_byte : (f : ℕ → Bool) (x : ℕ) (xs : List ℕ) → f x ≡ false → count f (x ∷ xs) ≡ count f xs
one_byte f x xs h = ap (λ b. cond b 1 0 + count f xs) h ∙ omega arith

pub first_fails : (f : ℕ → Bool) (x : ℕ) (xs : List ℕ) → count f (x ∷ xs) ≡ 0 → f x ≡ false
first_fails f x xs e = at (f x) refl
  where
    at : (b : Bool) → f x ≡ b → f x ≡ false
    at false is = is
    at true is = absurd (omega (arith, sym e ∙ ap (λ b. cond b 1 0 + count f xs) is))

pub later_fail : (f : ℕ → Bool) (x : ℕ) (xs : List ℕ) → count f (x ∷ xs) ≡ 0 → count f xs ≡ 0
later_fail f x xs e = omega arith

-- no byte of a number passes the test
pub record FailsOnNumbers (f : ℕ → Bool) : Type 0 where
  pub plus : f 43 ≡ false
  pub minus : f 45 ≡ false
  pub dot : f 46 ≡ false
  pub digits : (x : ℕ) → 48 ≤ x → x ≤ 57 → f x ≡ false
  pub upper : f 69 ≡ false
  pub lower : f 101 ≡ false

module _ (f : ℕ → Bool) (fails : FailsOnNumbers f) where
  -- the rest of a text has so many such bytes
  abbrev Leaves : ℕ → Option (List ℕ) → Type 0
  Leaves n None = Unit {0}
  Leaves n (Some r) = count f r ≡ n

  left_if : (n : ℕ) (b : Bool) (o p : Option (List ℕ)) → (b ≡ true → Leaves n o) → Leaves n p → Leaves n (cond b o p)
  left_if n true o p h k = h refl
  left_if n false o p h k = k

  left_then : (n : ℕ) (step : List ℕ → Option (List ℕ)) (o : Option (List ℕ)) → Leaves n o
      → ((u : List ℕ) → Leaves (count f u) (step u)) → Leaves n (option_and_then step o)
  left_then n step None k g = tt
  left_then n step (Some u) k g = subst (λ m. Leaves m (step u)) k (g u)

  without_first : (c : ℕ) (t : List ℕ) → f c ≡ false → head t ≡ c → count f (drop 1 t) ≡ count f t
  without_first c [] h e = refl
  without_first c (x ∷ xs) h e = sym (one_byte f x xs (ap f e ∙ h))

  without_if : (t : List ℕ) (b : Bool) → (b ≡ true → count f (drop 1 t) ≡ count f t)
      → count f (cond b (drop 1 t) t) ≡ count f t
  without_if t true h = h refl
  without_if t false h = refl

  digit_is_none : (x : ℕ) → is_ascii_digit x ≡ true → f x ≡ false
  digit_is_none x h =
      let parts = and_parts _ _ h in fails.digits x (leb-true 48 x parts.0) (leb-true x 57 parts.1)

  without_digit : (x : ℕ) (xs : List ℕ) (n : ℕ) (b : Bool) → (b ≡ true → f x ≡ false) → count f (drop n xs) ≡ count f xs
      → count f (drop (cond b (1 + n) 0) (x ∷ xs)) ≡ count f (x ∷ xs)
  without_digit x xs n false h k = refl
  without_digit x xs n true h k =
      let e : 1 + n ≡ suc n = omega arith in rw e (k ∙ sym (one_byte f x xs (h refl)))

  without_digits : (t : List ℕ) → count f (drop (prefix_len is_ascii_digit t) t) ≡ count f t
  without_digits [] = refl
  without_digits (x ∷ xs) = without_digit x xs _ (is_ascii_digit x) (digit_is_none x) (without_digits xs)

  digits_left : (t : List ℕ) → Leaves (count f t) (after_digits t)
  digits_left t = left_if _ (prefix_len is_ascii_digit t == 0) None _ (λ _. tt) (without_digits t)

  sign_left : (t : List ℕ) (b c : Bool) → (b ≡ true → count f (drop 1 t) ≡ count f t)
      → (c ≡ true → count f (drop 1 t) ≡ count f t) → count f (cond (b || c) (drop 1 t) t) ≡ count f t
  sign_left t true c h k = h refl
  sign_left t false c h k = without_if t c k

  head_off : (c : ℕ) (t : List ℕ) → f c ≡ false → (head t == c) ≡ true → count f (drop 1 t) ≡ count f t
  head_off c t h e = without_first c t h (eqb-true (head t) c e)

  whole_left : (t : List ℕ) → Leaves (count f t) (after_whole t)
  whole_left t =
      left_if _ (head t == 48) (Some (drop 1 t)) _ (head_off 48 t (fails.digits 48 (omega arith) (omega arith)))
      (digits_left t)

  fraction_left : (t : List ℕ) → Leaves (count f t) (after_fraction t)
  fraction_left t = left_if _ (head t == 46) _ (Some t)
      (λ e. subst (λ n. Leaves n (after_digits (drop 1 t))) (head_off 46 t fails.dot e) (digits_left (drop 1 t)))
      refl

  exponent_left : (t : List ℕ) → Leaves (count f t) (after_exponent t)
  exponent_left t = left_if _ ((head t == 101) || (head t == 69)) _ (Some t)
      (λ e. subst (λ n. Leaves n (after_digits (after_sign (drop 1 t))))
      (sign_left (drop 1 t) _ _ (head_off 45 (drop 1 t) fails.minus) (head_off 43 (drop 1 t) fails.plus)
      ∙ letter e) (digits_left (after_sign (drop 1 t)))) refl
    where
      either : (b c : Bool) → (b || c) ≡ true → (b ≡ true → count f (drop 1 t) ≡ count f t)
          → (c ≡ true → count f (drop 1 t) ≡ count f t) → count f (drop 1 t) ≡ count f t
      either true c e h k = h refl
      either false c e h k = k e

      letter : ((head t == 101) || (head t == 69)) ≡ true → count f (drop 1 t) ≡ count f t
      letter e = either _ _ e (head_off 101 t fails.lower) (head_off 69 t fails.upper)

  number_left : (t : List ℕ) → Leaves (count f t) (after_number t)
  unfolding after_number
  number_left t = left_then _ after_exponent _ (left_then _ after_fraction _
      (subst (λ n. Leaves n (after_whole (after_minus t))) (without_if t _ (head_off 45 t fails.minus))
      (whole_left (after_minus t))) fraction_left) exponent_left

  pub number_free : (s : List ℕ) → IsNumber s → count f s ≡ 0
  number_free s h = sym (subst (Leaves (count f s)) h (number_left s))
