-- The parts of an input round its first newline.
use Rattle.city_serve.proofs.Prelude.{◌≡◌, ℕ, ◌+◌, ◌-◌, ◌≤◌, ◌<◌, Bool, true, false, cond, List, [], length, take, drop}
use Rattle.city_serve.proofs.Prelude.{Option, Some, None, nat_lt, refl, ap, sym, ◌∙◌, arith, length-drop}
use Rattle.city_serve.proofs.Prelude.{position_or_len, nat_tests, take_all}
use Rattle.std.specs.Prelude.{position}
use Rattle.std.specs.List.{before_first, after_first}
use Rattle.std.proofs.lemmas.List.{drop_all}
use Rattle.std.proofs.lemmas.List.Sums.{position_or_len_is}
use Rattle.memchr.specs.Find.{IsFirstByte}

found_at : (b : Bool) (k n : ℕ) → cond b (Some k) None ≡ Some n → k ≡ n
found_at true k n e = cc
found_at false k n e = absurd (cc)

found_past : (b : Bool) (k l : ℕ) → nat_lt k l ≡ b → cond b (Some k) None ≡ None → l ≤ k
found_past true k l is e = absurd (cc)
found_past false k l is e = grind (arith, nat_tests, is)

module _ (p : ℕ → Bool) (xs : List ℕ) where
  pub before_found : (n : ℕ) → position p xs ≡ Some n → take n xs ≡ before_first p xs
  before_found n found =
      ap (λ k. take k xs) (sym (found_at (nat_lt (position_or_len p xs) (length xs)) (position_or_len p xs) n found))

  pub after_found : (n : ℕ) → position p xs ≡ Some n → take (length xs - (n + 1)) (drop (n + 1) xs) ≡ after_first p xs
  after_found n found =
      take_all (length xs - (n + 1)) (drop (n + 1) xs) (omega (arith, length-drop (n + 1) xs))
      ∙ ap (λ k. drop (k + 1) xs)
      (sym (found_at (nat_lt (position_or_len p xs) (length xs)) (position_or_len p xs) n found))

  past : position p xs ≡ None → length xs ≤ position_or_len p xs
  past none = found_past (nat_lt (position_or_len p xs) (length xs)) (position_or_len p xs) (length xs) refl none

  pub before_none : position p xs ≡ None → xs ≡ before_first p xs
  before_none none = sym (take_all (position_or_len p xs) xs (past none))

  pub after_none : position p xs ≡ None → [] ≡ after_first p xs
  after_none none = let h : length xs ≤ position_or_len p xs = past none in
      sym (drop_all (position_or_len p xs + 1) xs (omega arith))

not_true : (b : Bool) → ¬ (b ≡ true) → b ≡ false
not_true true never = absurd (never refl)
not_true false never = refl

module _ (p : ℕ → Bool) (xs : List ℕ) where
  found_first : (b : Bool) (n : ℕ) → nat_lt n (length xs) ≡ b → n < length xs → cond b (Some n) None ≡ Some n
  found_first true n is lt = refl
  found_first false n is lt = absurd (grind (arith, nat_tests, is))

  found_none : (b : Bool) (n : ℕ) → nat_lt (length xs) (length xs) ≡ b → cond b (Some n) None ≡ None
  found_none true n is = absurd (grind (arith, nat_tests, is))
  found_none false n is = refl

  -- the index of the first passing byte
  pub first_position : (r : Option ℕ) → IsFirstByte p xs r → r ≡ position p xs
  first_position None nowhere =
      let all : position_or_len p xs ≡ length xs =
      position_or_len_is p xs (length xs) 0 (omega arith) (λ k within. not_true _ (nowhere k (omega arith) within))
      (λ past. absurd (omega (arith, past))) in
      sym (ap (λ n. cond (nat_lt n (length xs)) (Some n) None) all
      ∙ found_none (nat_lt (length xs) (length xs)) (length xs) refl)
  first_position (Some n) found =
      let at : position_or_len p xs ≡ n =
      position_or_len_is p xs n 0 (omega (arith, found.0.high))
      (λ k before. not_true _ (found.0.before k (omega arith) before)) (λ _. found.1) in
      sym (ap (λ n. cond (nat_lt n (length xs)) (Some n) None) at
      ∙ found_first (nat_lt n (length xs)) n refl found.0.high)
