-- The digits of a line's sum, between what is before them and what is behind.
use Rattle.std.proofs.Common.{◌≡◌, ◌∙◌, ◌+◌, ℕ, List, [], ◌∷◌, ◌++◌, Bool, true, refl, sym, ap, arith, eqb, eq-eqb}
use Rattle.std.proofs.Common.{append_assoc, length, take, drop}
use Rattle.std.proofs.lemmas.List.{drop_at, length-append, take_at}
use Rattle.std.specs.Cmp.Lexicographic.{pointwise}
use Rattle.std.specs.Int.{to_be_bytes, w64}
use Rattle.city_journal.specs.Sums.{line_sum, sum_text}
use Rattle.city_journal.proofs.Digits.{hex_length}

pub sum_length : (front behind : List ℕ) → length (sum_text front behind) ≡ 16
unfolding sum_text
sum_length front behind = hex_length (to_be_bytes w64 (line_sum front behind))

same_bytes : (xs : List ℕ) → pointwise eqb xs xs ≡ true
same_bytes [] = refl
same_bytes (x ∷ xs) = rw (eq-eqb x x refl, same_bytes xs) refl

module _ (line front behind : List ℕ) (at : ℕ) (is : line ≡ front ++ (sum_text front behind ++ behind))
    (place : at ≡ length front) where
  pub front_is : take at line ≡ front
  front_is = ap (take at) is ∙ take_at front (sum_text front behind ++ behind) at (sym place)

  digits_are : take 16 (drop at line) ≡ sum_text front behind
  digits_are =
      ap (λ l. take 16 (drop at l)) is
      ∙ ap (take 16) (drop_at front (sum_text front behind ++ behind) at (sym place))
      ∙ take_at (sum_text front behind) behind 16 (sum_length front behind)

  behind_is : drop (at + 16) line ≡ behind
  behind_is =
      let all : length (front ++ sum_text front behind) ≡ at + 16 =
      omega (arith, length-append front (sum_text front behind), sum_length front behind, place) in
      ap (drop (at + 16)) (is ∙ sym (append_assoc front (sum_text front behind) behind))
      ∙ drop_at (front ++ sum_text front behind) behind (at + 16) all

  pub sum_found : (digits slice : List ℕ) (r : Bool) → digits ≡ sum_text (take at line) (drop (at + 16) line)
      → slice ≡ take 16 (drop at line) → r ≡ pointwise eqb digits slice → r ≡ true
  sum_found digits slice r d s e =
      let one : digits ≡ sum_text front behind = d ∙ ap (λ f. sum_text f (drop (at + 16) line)) front_is
      ∙ ap (sum_text front) behind_is in
      e ∙ ap (λ x. pointwise eqb x slice) one ∙ ap (pointwise eqb (sum_text front behind)) (s ∙ digits_are)
      ∙ same_bytes (sum_text front behind)
