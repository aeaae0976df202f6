-- The lexer passes over blanks.
use Rattle.std.proofs.Common.{◌≡◌, ℕ, suc, ◌+◌, ◌<◌, Bool, true, false, cond, ◌==◌, List, [], ◌∷◌, length, drop}
use Rattle.std.proofs.Common.{get_or, ◌⊎◌, inl, inr, refl, sym, ap, ◌∙◌, subst, arith, add-zero}
use Rattle.std.proofs.lemmas.Bool.{true≢false, eqb-true, or_cases}
use Rattle.std.proofs.lemmas.List.{drop_all, get_or-drop}
use Rattle.std.proofs.lemmas.List.Sums.{prefix_len_stops}
use Rattle.std.specs.List.{prefix_len}
use Rattle.json.specs.Word.{head, is_space}
use Rattle.json.specs.Lex.{class, space, between, lex_byte, lex}

or_last : (P : ℕ → Type 0) (x c : ℕ) (b : Bool) → P c → (b ≡ true → P x) → (b ≡ true) ⊎ ((x == c) ≡ true) → P x
or_last P x c b p f (inl e) = f e
or_last P x c b p f (inr e) = subst P (sym (eqb-true x c e)) p

space_class : (x : ℕ) → is_space x ≡ true → class x ≡ space
space_class x h =
    let P = λ (y : ℕ). class y ≡ space in
    or_last P x 13 _ refl (λ i. or_last P x 10 _ refl
    (λ j. or_last P x 9 _ refl (λ k. subst P (sym (eqb-true x 32 k)) refl) (or_cases _ _ j)) (or_cases _ _ i))
    (or_cases _ _ h)

passed : (b : Bool) (x : ℕ) (xs : List ℕ) (n : ℕ) → (b ≡ true → class x ≡ space)
    → lex between (drop n xs) ≡ lex between xs
    → lex between (drop (cond b (1 + n) 0) (x ∷ xs)) ≡ lex between (x ∷ xs)
unfolding lex
passed true x xs n blank more =
    let next : suc n ≡ 1 + n = omega arith in
    subst (λ k. lex between (drop k (x ∷ xs)) ≡ lex between (x ∷ xs)) next
    (more ∙ sym (ap (λ c. lex_byte between c x xs (λ m. lex m xs)) (blank refl)))
passed false x xs n blank more = refl

pub lex-blanks : (t : List ℕ) → lex between (drop (prefix_len is_space t) t) ≡ lex between t
lex-blanks [] = refl
lex-blanks (x ∷ xs) = passed (is_space x) x xs _ (space_class x) (lex-blanks xs)

-- if a space stands behind them, the text is over
pub after_blanks : (t : List ℕ) → head (drop (prefix_len is_space t) t) ≡ 32 → drop (prefix_len is_space t) t ≡ []
after_blanks t e =
    let n = prefix_len is_space t in
    let here : get_or t n 32 ≡ 32 = ap (λ j. get_or t j 32) (sym (add-zero n)) ∙ sym (get_or-drop n t 0 32) ∙ e in
    let over : n < length t → ⊥ = λ l. true≢false (sym (ap is_space here) ∙ prefix_len_stops is_space t 32 l) in
    drop_all n t (omega (arith, over))
