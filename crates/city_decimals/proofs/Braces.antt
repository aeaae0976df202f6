-- Where a brace stands in the text of a number or of a string.
use Rattle.std.proofs.Common.{◌≡◌, ℕ, zero, suc, ◌<◌, ◌≤◌, Bool, true, false, cond, ◌==◌, List, [], ◌∷◌, ◌++◌}
use Rattle.std.proofs.Common.{length, get_or, true≢false, refl, sym, ap, ◌∙◌, arith, inl, inr, ◌⊎◌}
use Rattle.std.proofs.Common.{◌&&◌}
use Rattle.std.proofs.lemmas.Bool.{ne_eqb, and_parts, cases_eq, cases_lt}
use Rattle.std.specs.Prelude.{◌≢◌}
use Rattle.json.specs.Print.{escape_byte, IsNumber}
use Rattle.json.proofs.Printed.Strings.{escape_byte_plain}
use Rattle.city_decimals.proofs.NumberBytes.{count, first_fails, later_fail}
use Rattle.city_decimals.proofs.NumberBytes.{one_byte as count_one, number_free as none_in_number}

-- how many braces stand in a text
abbrev pub braces : List ℕ → ℕ
braces = count (λ x. x == 123)

one_byte : (x : ℕ) (xs : List ℕ) → x ≢ 123 → braces (x ∷ xs) ≡ braces xs
one_byte x xs h = count_one (λ y. y == 123) x xs (ne_eqb x 123 h)

pub first_is_none : (x : ℕ) (xs : List ℕ) → braces (x ∷ xs) ≡ 0 → x ≢ 123
first_is_none x xs e is = absurd (true≢false (sym (ap (λ y. y == 123) is) ∙ first_fails (λ y. y == 123) x xs e))

pub later_are_none : (x : ℕ) (xs : List ℕ) → braces (x ∷ xs) ≡ 0 → braces xs ≡ 0
later_are_none x xs e = later_fail (λ y. y == 123) x xs e

pub number_free : (s : List ℕ) → IsNumber s → braces s ≡ 0
number_free = none_in_number (λ x. x == 123) (record {
  plus = refl;
  minus = refl;
  dot = refl;
  digits = λ x low high. ne_eqb x 123 (λ e. omega arith);
  upper = refl;
  lower = refl;
})

-- ---- strings

-- the text of a byte doesn't begin with a quote, and has no brace unless it is one
abbrev is_quiet : ℕ → List ℕ → Bool
is_quiet x text = cond (length text == 0) false
    (cond (get_or text 0 0 == 34) false (cond (x == 123) true (braces text == 0)))

abbrev are_quiet : ℕ → Bool
are_quiet zero = true
are_quiet (suc n) = is_quiet n (escape_byte n) && are_quiet n

all_quiet : are_quiet 93 ≡ true
unfolding escape_byte
all_quiet = refl

quiet_below : (n : ℕ) → are_quiet n ≡ true → (x : ℕ) → x < n → is_quiet x (escape_byte x) ≡ true
quiet_below zero e x h = absurd (omega arith)
quiet_below (suc n) e x h =
    let p = and_parts _ _ e in
    elim (cases_eq x n) [ inl same ↦ rw same p.0 | inr other ↦ quiet_below n p.1 x (omega arith) ]

byte_quiet : (x : ℕ) → is_quiet x (escape_byte x) ≡ true
byte_quiet x = elim (cases_lt x 93) [
  | inl small ↦ quiet_below 93 all_quiet x small
  | inr large ↦
      ap (is_quiet x) (escape_byte_plain x (λ e. omega arith) (λ e. omega arith) (omega arith))
      ∙ alone large (cases_eq x 123)
]
  where
    alone : 93 ≤ x → (x ≡ 123) ⊎ (x ≢ 123) → is_quiet x (x ∷ []) ≡ true
    alone large (inl is) = rw is refl
    alone large (inr other) = rw (ne_eqb x 123 other) (rw (ne_eqb x 34 (λ e. omega arith)) refl)

-- the text of a byte that isn't a brace has none
pub byte_free : (x : ℕ) → x ≢ 123 → braces (escape_byte x) ≡ 0
byte_free x other = grind (arith, byte_quiet x)

pub no_quote : (x : ℕ) (rest : List ℕ) → get_or (escape_byte x ++ rest) 0 0 ≢ 34
no_quote x rest = at (escape_byte x) (byte_quiet x)
  where
    at : (text : List ℕ) → is_quiet x text ≡ true → get_or (text ++ rest) 0 0 ≢ 34
    at [] quiet = absurd (true≢false (sym quiet))
    at (y ∷ ys) quiet = grind (arith, quiet)
