-- Numbers given by their digits.
use Rattle.city_decimals.proofs.Prelude.{◌≡◌, ℕ, ◌<◌, List, true, subst, arith, bytes_eq-Decides, IsNumber, escape}
use Rattle.city_decimals.proofs.Prelude.{number_of-decimal, is_whole, IsPlain, is_written_so, number_of, Some, ◌∷◌, suc}
use Rattle.city_decimals.proofs.Prelude.{sym, ap, ◌∙◌, ◌≤◌, get_or, get_or-take, length, length-take, take, drop, ◌+◌}
use Rattle.city_decimals.proofs.Prelude.{decimal_digit}
use Rattle.std.proofs.Common.{◌^◌, get_or-drop, negsuc}
use Rattle.std.specs.Prelude.{decimal, zero}
use Rattle.std.specs.Char.{is_ascii_digit}
use Rattle.std.specs.Fmt.{signed_decimal}
use Rattle.std.specs.List.{prefix_len}
use Rattle.std.proofs.lemmas.List.{drop_more}
use Rattle.std.proofs.lemmas.List.Sums.{prefix_len-le-length, prefix_len_passes}
use Rattle.serde_json.specs.Data.{negative}
use Rattle.serde_json.proofs.Numbers.{number_of-negative}
use Rattle.city_decimals.specs.internal.PlainNumbers.{IsKept}
use Rattle.std.specs.Str.Parse.{digits_value}
use Rattle.std.proofs.lemmas.Fmt.{decimal-digits_value}
use Rattle.std.proofs.lemmas.Str.Parse.{numerals_by_value, tells_by_index, digits_value_short}
use Rattle.json.proofs.Printed.Decimals.{IsNumber-decimal, IsNumber-signed_decimal}
use Rattle.city_decimals.proofs.Copies.{plain_text}

-- the text is the decimal of some number
plain_is_decimal : (s : List ℕ) → IsPlain s → (n : ℕ) × (n < 10 ^ 18) × (decimal n ≡ s)
plain_is_decimal s p =
    let own = numerals_by_value _ tells_by_index in
    let small : digits_value 10 s < 10 ^ 18 = digits_value_short own s 18 p.digits p.few in
    (digits_value 10 s, small, decimal-digits_value own s p.digits p.some p.first (omega arith))

decimal_is_whole : (n : ℕ) → n < 10 ^ 18 → is_whole (decimal n) ≡ true
decimal_is_whole n small = search (arith, number_of-decimal, bytes_eq-Decides)

pub plain_is_whole : (s : List ℕ) → IsPlain s → is_whole s ≡ true
plain_is_whole s p = search (arith, plain_is_decimal, decimal_is_whole)

pub plain_is_number : (s : List ℕ) → IsPlain s → IsNumber s
plain_is_number s p =
    let found = plain_is_decimal s p in
    subst IsNumber found.2 (IsNumber-decimal found.0 (omega (arith, found.1)))

-- digits behind a minus sign
pub negative_is_kept : (s : List ℕ) → IsPlain s → 48 < get_or s 0 0 → IsKept (45 ∷ s)
negative_is_kept s p first =
    let found = plain_is_decimal s p in
    by found.0 found.1 found.2
  where
    by : (n : ℕ) → n < 10 ^ 18 → decimal n ≡ s → IsKept (45 ∷ s)
    by zero small is =
        absurd (omega (arith, first, ap (λ t. get_or t 0 0) (sym is ∙ sym (sym (decimal_digit 0 (omega arith))))))
    by (suc n) small is =
        let text : signed_decimal (negsuc n) ≡ 45 ∷ s = ap (λ t. 45 ∷ t) is in
        let read : number_of (45 ∷ s) ≡ Some (negative (negsuc n)) =
        ap number_of (sym text) ∙ number_of-negative n (omega (arith, small)) in (
          subst IsNumber text (IsNumber-signed_decimal (negsuc n) (omega (arith, small))),
          ap (is_written_so (45 ∷ s)) read ∙ (bytes_eq-Decides _ _).1 text,
        )

pub plain_is_kept : (s : List ℕ) → IsPlain s → IsKept s
plain_is_kept s p = (plain_is_number s p, plain_is_whole s p)

pub plain_is_itself : (s : List ℕ) → IsPlain s → escape s ≡ s
plain_is_itself s p = search (arith, plain_text)

digit_between : (x : ℕ) → is_ascii_digit x ≡ true → (48 ≤ x) × (x ≤ 57)
digit_between x e = grind arith

-- digits at the front of a text
pub digits_are_plain : (text : List ℕ) (n : ℕ) → 0 < n → n ≤ 18 → n ≡ prefix_len is_ascii_digit text
    → (get_or text 0 0 ≡ 48 → n ≤ 1) → IsPlain (take n text)
digits_are_plain text n some few is first =
    search (arith, prefix_len-le-length, length-take, get_or-take, digit_between, prefix_len_passes)

pub digits_kept : (text : List ℕ) (at n : ℕ) → 0 < n → n ≤ 18 → n ≡ prefix_len is_ascii_digit (drop at text)
    → (get_or text at 0 ≡ 48 → n ≤ 1) → IsKept (take n (drop at text))
digits_kept text at n some few is first =
    let here : get_or (drop at text) 0 0 ≡ get_or text at 0 =
    get_or-drop at text 0 0 ∙ ap (λ i. get_or text i 0) (omega arith) in
    plain_is_kept _ (digits_are_plain (drop at text) n some few is (λ e. first (sym here ∙ e)))

-- and behind a minus sign
pub negative_kept : (text : List ℕ) (at n : ℕ) → at < length text → get_or text at 0 ≡ 45 → 0 < n → n ≤ 18
    → n ≡ prefix_len is_ascii_digit (drop (at + 1) text) → (get_or text (at + 1) 0 ≡ 48 → ⊥)
    → IsKept (take (1 + n) (drop at text))
negative_kept text at n h minus some few is no_zero =
    let rest = drop (at + 1) text in
    let here : get_or rest 0 0 ≡ get_or text (at + 1) 0 =
    get_or-drop (at + 1) text 0 0 ∙ ap (λ i. get_or text i 0) (omega arith) in
    let p = digits_are_plain rest n some few is (λ e. absurd (no_zero (sym here ∙ e))) in
    let front : get_or (take n rest) 0 0 ≡ get_or text (at + 1) 0 = get_or-take n rest 0 0 some ∙ here in
    let low = (p.digits 0 p.some).0 in
    let apart : get_or (take n rest) 0 0 ≡ 48 → ⊥ = λ e. no_zero (sym front ∙ e) in
    let sum : suc n ≡ 1 + n = omega arith in
    let text_is : 45 ∷ take n rest ≡ take (1 + n) (drop at text) =
    ap (λ k. take k (45 ∷ rest)) sum ∙ ap (take (1 + n)) (sym (drop_more text at 0 h ∙ ap (λ x. x ∷ rest) minus)) in
    subst IsKept text_is (negative_is_kept (take n rest) p (omega (arith, low, apart)))
