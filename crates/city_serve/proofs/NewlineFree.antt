-- A value of JSON is written without a newline.
use Rattle.std.proofs.Common.{◌≡◌, ℕ, zero, suc, ◌+◌, ◌<◌, Bool, true, false, cond, ◌==◌, List, [], ◌∷◌, ◌++◌}
use Rattle.std.proofs.Common.{length, get_or, refl, ap, ◌∙◌, arith, inl, inr}
use Rattle.std.proofs.Common.{◌&&◌}
use Rattle.std.proofs.lemmas.Bool.{eqb-true, ne_eqb, and_parts, cases_eq, cases_lt}
use Rattle.std.specs.Prelude.{◌≢◌}
use Rattle.json.specs.Json.{Json, null, boolean, number, string, array, object, Items, no_items, item, Members}
use Rattle.json.specs.Json.{no_members, member}
use Rattle.json.specs.Print.{escape_byte, escape, quoted, IsNumber}
use Rattle.json.specs.Tree.{HasNumbers, ItemsHaveNumbers, MembersHaveNumbers}
use Rattle.json.proofs.Printed.Strings.{escape_byte_plain}
use Rattle.city_decimals.proofs.NumberBytes.{count, count-append}
use Rattle.city_decimals.proofs.NumberBytes.{one_byte as one_more, number_free as none_in_number}
use Rattle.city_decimals.specs.internal.Compact.{value_text, items_text, members_text, comma_if}

abbrev pub newlines : List ℕ → ℕ
newlines = count (λ x. x == 10)

newlines-append : (xs ys : List ℕ) → newlines (xs ++ ys) ≡ newlines xs + newlines ys
newlines-append = count-append (λ x. x == 10)

one_byte : (x : ℕ) (xs : List ℕ) → x ≢ 10 → newlines (x ∷ xs) ≡ newlines xs
one_byte x xs h = one_more (λ y. y == 10) x xs (ne_eqb x 10 h)

pub no_newline : (xs : List ℕ) → newlines xs ≡ 0 → (k : ℕ) → k < length xs → get_or xs k 0 ≢ 10
no_newline [] e k below is = absurd (omega arith)
no_newline (x ∷ xs) e zero below is = absurd (omega (arith, ap (λ y. cond (y == 10) 1 0 + newlines xs) is))
no_newline (x ∷ xs) e (suc k) below is = no_newline xs (omega arith) k (omega arith) is

number_free : (s : List ℕ) → IsNumber s → newlines s ≡ 0
number_free = none_in_number (λ x. x == 10) (record {
  plus = refl;
  minus = refl;
  dot = refl;
  digits = λ x low high. ne_eqb x 10 (λ e. omega arith);
  upper = refl;
  lower = refl;
})

-- ---- texts

abbrev escapes_free : ℕ → Bool
escapes_free zero = true
escapes_free (suc n) = (newlines (escape_byte n) == 0) && escapes_free n

all_free : escapes_free 93 ≡ true
unfolding escape_byte
all_free = refl

free_below : (n : ℕ) → escapes_free n ≡ true → (x : ℕ) → x < n → newlines (escape_byte x) ≡ 0
free_below zero e x h = absurd (omega arith)
free_below (suc n) e x h =
    let p = and_parts _ _ e in
    elim (cases_eq x n) [ inl same ↦ rw same (eqb-true _ 0 p.0) | inr other ↦ free_below n p.1 x (omega arith) ]

byte_free : (x : ℕ) → newlines (escape_byte x) ≡ 0
byte_free x = elim (cases_lt x 93) [
  | inl small ↦ free_below 93 all_free x small
  | inr large ↦
      ap newlines (escape_byte_plain x (λ e. omega arith) (λ e. omega arith) (omega arith))
      ∙ one_byte x [] (λ e. omega arith)
]

escape_free : (s : List ℕ) → newlines (escape s) ≡ 0
escape_free [] = refl
escape_free (x ∷ xs) = omega (arith, newlines-append (escape_byte x) (escape xs), byte_free x, escape_free xs)

quoted_free : (s : List ℕ) → newlines (quoted s) ≡ 0
quoted_free s = omega (arith, newlines-append (escape s) (34 ∷ []), escape_free s)

-- ---- values

comma_free : (later : Bool) (xs : List ℕ) → newlines (comma_if later ++ xs) ≡ newlines xs
comma_free true xs = omega arith
comma_free false xs = refl

mutual
  pub value_free : (j : Json) → HasNumbers j → newlines (value_text j) ≡ 0
  value_free null h = refl
  value_free (boolean true) h = refl
  value_free (boolean false) h = refl
  value_free (number s) h = number_free s h
  value_free (string s) h = quoted_free s
  value_free (array js) h = omega (arith, items_free false js h)
  value_free (object ms) h = omega (arith, members_free false ms h)

  items_free : (later : Bool) (js : Items) → ItemsHaveNumbers js → newlines (items_text later js) ≡ 0
  items_free later no_items h = refl
  items_free later (item j js) h =
      comma_free later (value_text j ++ items_text true js) ∙ omega (
        arith,
        newlines-append (value_text j) (items_text true js),
        value_free j h.0,
        items_free true js h.1,
      )

  members_free : (later : Bool) (ms : Members) → MembersHaveNumbers ms → newlines (members_text later ms) ≡ 0
  members_free later no_members h = refl
  members_free later (member k j ms) h =
      comma_free later (quoted k ++ 58 ∷ (value_text j ++ members_text true ms))
      ∙ omega (
        arith,
        newlines-append (quoted k) (58 ∷ (value_text j ++ members_text true ms)),
        quoted_free k,
        newlines-append (value_text j) (members_text true ms),
        value_free j h.0,
        members_free true ms h.1,
      )
