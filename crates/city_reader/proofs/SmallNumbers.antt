-- Whole numbers of a few digits, at the front of a text.
use Rattle.std.proofs.Common.{◌≡◌, ℕ, ℤ, ◌+◌, ◌<◌, ◌≤◌, true, false, cond, ◌&&◌, ◌||◌, ◌==◌, nat_lt, List, length}
use Rattle.std.proofs.Common.{take, drop, get_or, Some, None, ◌⊎◌, inl, inr, sym, ap, ap₂, ◌∙◌, arith, get_or-take}
use Rattle.std.proofs.Common.{drop-drop}
use Rattle.std.proofs.lemmas.Bool.{true≢false, eqb-true, eq-eqb, ltb-false, ltb-true, leb-true, le-leb, ne_eqb}
use Rattle.std.proofs.lemmas.Bool.{and_parts}
use Rattle.std.proofs.lemmas.Bool.{cases_Bool}
use Rattle.std.proofs.lemmas.List.{drop-take, get_or_default, length-take-le}
use Rattle.std.proofs.lemmas.List.Sums.{prefix_len_is}
use Rattle.std.proofs.lemmas.Str.Parse.{digit_at}
use Rattle.std.specs.Char.{is_ascii_digit}
use Rattle.std.specs.List.{prefix_len}
use Rattle.std.specs.Str.Parse.{AllDigits}
use Rattle.fast_float.specs.Text.{scan}
use Rattle.json.specs.Word.{head, ends_word, is_operator, is_space, after_digits, after_whole, after_number}
use Rattle.serde_json.specs.Find.{of_integer}
use Rattle.serde_json.specs.Read.{number_of, number_from}
use Rattle.city_reader.specs.Numbers.{IsWholeFront}
use Rattle.city_reader.proofs.Lanes.{upto_sound, same, same_is}
use Rattle.city_reader.proofs.Places.{head_at}
use Rattle.city_reader.proofs.WholeNumbers.{number_whole}

no_digit : (x : ℕ) → (is_operator x || is_space x) ≡ true → is_ascii_digit x ≡ false
no_digit x h = go (cases_Bool (is_ascii_digit x))
  where
    go : (is_ascii_digit x ≡ true) ⊎ (is_ascii_digit x ≡ false) → is_ascii_digit x ≡ false
    go (inr e) = e
    go (inl e) =
        let small : x < 58 = omega (arith, leb-true x 57 (and_parts _ _ e).1) in
        let never = upto_sound (λ y. same (is_ascii_digit y && (is_operator y || is_space y)) false) 58 tt x small in
        absurd (true≢false (sym (ap₂ (λ a b. a && b) e h) ∙ same_is _ _ never))

module _ (t : List ℕ) (count : ℕ) (le : count ≤ length t) where
  digit : AllDigits 10 (take count t) → (k : ℕ) → k < count → is_ascii_digit (get_or t k 0) ≡ true
  digit all k l =
      let r = digit_at (take count t) k all (omega (arith, length-take-le count t le, l)) in
      ap is_ascii_digit (sym (get_or-take count t k 0 l)) ∙ ap₂ (λ a b. a && b) (le-leb 48 _ r.0) (le-leb _ 57 r.1)

  run : AllDigits 10 (take count t) → ends_word (drop count t) ≡ true → prefix_len is_ascii_digit t ≡ count
  run all ended =
      prefix_len_is is_ascii_digit t count 0 le (digit all)
      (λ l. no_digit (get_or t count 0)
      (ap (λ x. is_operator x || is_space x) (sym (head_at t count ∙ get_or_default t count 32 0 l)) ∙ ended))

  -- no other digit follows a zero
  pub needless : AllDigits 10 (take count t) → ((head t == 48) && is_ascii_digit (head (drop 1 t))) ≡ false
      → 0 < count → head t ≡ 48 → count ≡ 1
  needless all none some zero = go (cases_Bool (nat_lt 1 count))
    where
      go : (nat_lt 1 count ≡ true) ⊎ (nat_lt 1 count ≡ false) → count ≡ 1
      go (inr e) = omega (arith, ltb-false 1 count e)
      go (inl e) =
          let more : 1 < count = ltb-true 1 count e in
          let second =
          ap is_ascii_digit (head_at t 1 ∙ get_or_default t 1 32 0 (omega (arith, le, more))) ∙ digit all 1 more in
          absurd (true≢false (sym (ap₂ (λ a b. a && b) (eq-eqb (head t) 48 zero) second) ∙ none))

  -- digits standing alone are a whole number
  pub alone : AllDigits 10 (take count t) → 0 < count → (head t ≡ 48 → count ≡ 1) → ends_word (drop count t) ≡ true
      → after_whole t ≡ Some (drop count t)
  alone all some zero ended = go (cases_Bool (head t == 48))
    where
      go : ((head t == 48) ≡ true) ⊎ ((head t == 48) ≡ false) → after_whole t ≡ Some (drop count t)
      go (inl e) =
          ap (λ b. cond b (Some (drop 1 t)) (after_digits t)) e
          ∙ ap (λ k. Some (drop k t)) (sym (zero (eqb-true _ 48 e)))
      go (inr e) =
          ap (λ b. cond b (Some (drop 1 t)) (after_digits t)) e
          ∙ ap (λ k. cond (k == 0) None (Some (drop k t))) (run all ended)
          ∙ ap (λ b. cond b None (Some (drop count t))) (ne_eqb count 0 (λ z. omega (arith, z, some)))

first : (t : List ℕ) (count : ℕ) → 0 < count → count ≤ length t → get_or (take count t) 0 0 ≡ head t
first t count some le = get_or-take count t 0 0 some ∙ get_or_default t 0 0 32 (omega arith)

pub unsigned_ends : (t : List ℕ) (count : ℕ) → (head t == 45) ≡ false → IsWholeFront t count
    → after_number t ≡ Some (drop count t)
unsigned_ends t count e h = number_whole t _ (ap (λ b. after_whole (cond b (drop 1 t) t)) e ∙ h.2) h.3

pub unsigned_is : (t : List ℕ) (count : ℕ) (n : ℤ) → (head t == 45) ≡ false → IsWholeFront t count
    → number_from false (scan (take count t)) ≡ Some (of_integer n) → number_of (take count t) ≡ Some (of_integer n)
unfolding number_of
unsigned_is t count n e h is =
    let s = take count t in
    let sign : (get_or s 0 0 == 45) ≡ false = ap (λ x. x == 45) (first t count h.0 h.1) ∙ e in
    rw sign is

pub signed_ends : (t : List ℕ) (count : ℕ) → (head t == 45) ≡ true → IsWholeFront (drop 1 t) count
    → (after_number t ≡ Some (drop (1 + count) t)) × (ends_word (drop (1 + count) t) ≡ true)
signed_ends t count e h =
    let there = drop-drop count 1 t in
    let ended = ap ends_word (sym there) ∙ h.3 in
    (number_whole t _ (ap (λ b. after_whole (cond b (drop 1 t) t)) e ∙ h.2 ∙ ap Some there) ended, ended)

pub signed_is : (t : List ℕ) (count : ℕ) (n : ℤ) → (head t == 45) ≡ true → 1 + count ≤ length t
    → number_from true (scan (take count (drop 1 t))) ≡ Some (of_integer n)
    → number_of (take (1 + count) t) ≡ Some (of_integer n)
unfolding number_of
signed_is t count n e le is =
    let s = take (1 + count) t in
    let sign : (get_or s 0 0 == 45) ≡ true = ap (λ x. x == 45) (first t (1 + count) (omega arith) le) ∙ e in
    rw (sign, drop-take 1 count t) is
