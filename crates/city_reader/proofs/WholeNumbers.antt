-- Whole numbers, in the parts of the grammar.
use Rattle.std.proofs.Common.{◌≡◌, ℕ, true, false, ◌||◌, ◌==◌, List, Some, refl, sym, ap, ◌∙◌}
use Rattle.std.proofs.lemmas.Bool.{true≢false, ne_eqb}
use Rattle.json.specs.Word.{head, ends_word, is_operator, is_space, after_minus, after_whole, after_number}

not_in_word : (c : ℕ) (t : List ℕ) → (is_operator c || is_space c) ≡ false → ends_word t ≡ true → (head t == c) ≡ false
not_in_word c t other ended =
    ne_eqb (head t) c (λ e. true≢false (sym ended ∙ ap (λ y. is_operator y || is_space y) e ∙ other))

-- a number without a fraction and an exponent
pub number_whole : (t rest : List ℕ) → after_whole (after_minus t) ≡ Some rest → ends_word rest ≡ true
    → after_number t ≡ Some rest
unfolding after_number
number_whole t rest whole ended =
    rw (whole, not_in_word 46 rest refl ended, not_in_word 101 rest refl ended, not_in_word 69 rest refl ended) refl
