-- Parts of a line, as they were written.
use Rattle.std.proofs.Common.{◌≡◌, ◌≢◌, ◌≤◌, ◌<◌, ◌^◌, ◌∙◌, ◌+◌, ◌-◌, ◌/◌, ◌%◌, ◌⊎◌, inl, inr, ℕ, zero, suc, List, [], ◌∷◌, ◌++◌, Bool, true, false, cond, length, get_or}
use Rattle.std.proofs.Common.{Option, None, Some, ap, sym, refl, subst, arith, append_assoc, length-append, take, drop, eqb, eq-eqb, eqb-true, decimal, nat_lt}
use Rattle.std.proofs.lemmas.Bool.{cases_lt}
use Rattle.std.proofs.Common.{Bor, IfSome, IsSomeAnd, MatchOption}
use Rattle.std.specs.Cmp.Lexicographic.{pointwise}
use Rattle.std.proofs.lemmas.Bool.Decides.{Decides-eqb, nat_tests}
use Rattle.std.proofs.lemmas.Slice.Eq.{strip_prefix_is, strip_suffix_is}
use Rattle.std.proofs.lemmas.List.{get_or-append-add, append_cancel_left, append_cancel_right, take_at, drop_at, drop_more, length-drop, take-append-drop, take_all}
use Rattle.std.proofs.Math.Seq.{get_or-append_seam}
use Rattle.std.specs.Str.Parse.{AllDigits, IsNumeral, digits_value, without_leading_plus}
use Rattle.std.proofs.lemmas.Str.Parse.{IsNumeralModel, digit_at, numerals_by_value, tells_digits, without_leading_plus_none}
use Rattle.std.proofs.lemmas.Fmt.{decimal_is_IsNumeral, decimal_nonempty, first_decimal, decimal_digit, decimal-digits_value}
use Rattle.memchr.specs.Find.{IsLastByte, is_byte}
use Rattle.json.specs.Print.{escape, escape_byte, escape_letter, quoted}
use Rattle.std.specs.Char.{digit_char}
use Rattle.city_journal.specs.Strings.{behind_string, is_plain}

-- ---- the last colon

module _ (front ds : List ℕ) (digits : AllDigits 10 ds) where
  colon_at : get_or (front ++ 58 ∷ ds) (length front) 0 ≡ 58
  colon_at = get_or-append_seam front 58 ds 0

  all_fit : length (front ++ 58 ∷ ds) ≡ length front + suc (length ds)
  all_fit = length-append front (58 ∷ ds)

  digit_behind : (j : ℕ) → j < length ds → get_or (front ++ 58 ∷ ds) (length front + suc j) 0 ≢ 58
  digit_behind j lt e =
      omega (arith, digit_at ds j digits lt, get_or-append-add front (58 ∷ ds) (suc j) 0, e)

  last_by : (k : ℕ) → IsLastByte (is_byte 58) (front ++ 58 ∷ ds) (Some k)
      → (k < length front) ⊎ (length front ≤ k) → (length front < k) ⊎ (k ≤ length front) → k ≡ length front
  last_by k h (inl lt) other =
      absurd (h.0.after (length front) (omega arith) (omega (arith, all_fit)) (eq-eqb _ 58 colon_at))
  last_by k h (inr le) (inl lt) =
      let split : k ≡ length front + suc (k - length front - 1) = omega arith in
      absurd (digit_behind (k - length front - 1) (omega (arith, all_fit, h.0.high))
      (ap (λ j. get_or (front ++ 58 ∷ ds) j 0) (sym split) ∙ eqb-true _ 58 h.1))
  last_by k h (inr le) (inr ge) = omega arith

  pub last_colon : (r : Option ℕ) → IsLastByte (is_byte 58) (front ++ 58 ∷ ds) r → r ≡ Some (length front)
  last_colon None h = absurd (h (length front) (omega arith) (omega (arith, all_fit)) (eq-eqb _ 58 colon_at))
  last_colon (Some k) h = ap Some (last_by k h (cases_lt k (length front)) (cases_lt (length front) k))

-- ---- numbers

plain_first : (ds : List ℕ) → 0 < length ds → get_or ds 0 0 ≤ 57 → 49 ≤ get_or ds 0 0 → is_plain ds ≡ true
plain_first [] some hi lo = absurd (omega (arith, some))
plain_first (c ∷ []) some hi lo = grind (arith, nat_tests)
plain_first (c ∷ d ∷ ds) some hi lo = grind (arith, nat_tests)

pub is_plain-decimal : (n : ℕ) → n < 2 ^ 64 → is_plain (decimal n) ≡ true
is_plain-decimal zero lt = ap is_plain (decimal_digit 0 (omega arith))
is_plain-decimal (suc m) lt =
    let all = (decimal_is_IsNumeral (suc m) lt).0 in
    let some = decimal_nonempty (suc m) lt in
    plain_first (decimal (suc m)) some
    (omega (arith, digit_at (decimal (suc m)) 0 all.1 some)) (omega (arith, first_decimal (suc m) (omega arith) lt))

plain_begins : (ds : List ℕ) → is_plain ds ≡ true → (get_or ds 0 0 ≢ 43) × (get_or ds 0 0 ≡ 48 → length ds ≡ 1)
plain_begins [] e = absurd (cc)
plain_begins (c ∷ []) e = (grind (arith, nat_tests), λ _. refl)
plain_begins (c ∷ d ∷ ds) e = (grind (arith, nat_tests), grind (arith, nat_tests))

-- what a parse says at `Ok`
abbrev pub IsRead : List ℕ → ℕ → Type 0
IsRead digits number = (IsNumeral 10 (without_leading_plus digits) × (digits_value 10 (without_leading_plus digits) < 2 ^ 64))
    × (number ≡ digits_value 10 (without_leading_plus digits))

module _ (digits : List ℕ) (plain : is_plain digits ≡ true) where
  no_plus : without_leading_plus digits ≡ digits
  no_plus = without_leading_plus_none digits (plain_begins digits plain).0

  own : IsNumeralModel (AllDigits 10) (digits_value 10)
  own = numerals_by_value (AllDigits 10) tells_digits

  pub number_found : (bytes : List ℕ) (at number : ℕ) → digits ≡ drop at bytes → IsRead digits number
      → bytes ≡ take at bytes ++ decimal number
  number_found bytes at number is parsed =
      let read = rw no_plus at parsed in
      sym (take-append-drop at bytes)
      ∙ ap (λ d. take at bytes ++ d) (sym is
      ∙ sym (decimal-digits_value own digits read.0.0.1 read.0.0.0 (plain_begins digits plain).1 read.0.1)
      ∙ ap decimal (sym read.1))

  pub number_read : (number n : ℕ) → n < 2 ^ 64 → digits ≡ decimal n → IsRead digits number → number ≡ n
  number_read number n lt is parsed =
      let read = rw no_plus at parsed in
      read.1 ∙ ap (digits_value 10) is ∙ (decimal_is_IsNumeral n lt).1

  pub is_taken : (n : ℕ) → n < 2 ^ 64 → digits ≡ decimal n
      → ¬ (IsNumeral 10 (without_leading_plus digits) × (digits_value 10 (without_leading_plus digits) < 2 ^ 64)) → ⊥
  is_taken n lt is refused =
      let number = decimal_is_IsNumeral n lt in
      refused (rw (no_plus, is) (number.0, subst (λ v. v < 2 ^ 64) (sym number.1) lt))

module _ (bytes front : List ℕ) (n : ℕ) (lt : n < 2 ^ 64) (eq : bytes ≡ front ++ 58 ∷ decimal n) where
  all_digits : AllDigits 10 (decimal n)
  all_digits = (decimal_is_IsNumeral n lt).0.1

  pub colon_written : (r : Option ℕ) → IsLastByte (is_byte 58) bytes r → r ≡ Some (length front)
  colon_written r h = last_colon front (decimal n) all_digits r (rw eq at h)

  pub colon_is : (k : ℕ) → IsLastByte (is_byte 58) bytes (Some k) → k ≡ length front
  colon_is k h = last_by front (decimal n) all_digits k (rw eq at h) (cases_lt k (length front)) (cases_lt (length front) k)

  split_at : bytes ≡ (front ++ 58 ∷ []) ++ decimal n
  split_at = eq ∙ sym (append_assoc front (58 ∷ []) (decimal n))

  pub before_number : (k : ℕ) → k ≡ length front → take (k + 1) bytes ≡ front ++ 58 ∷ []
  before_number k e =
      let at : length (front ++ 58 ∷ []) ≡ k + 1 = omega (arith, length-append front (58 ∷ []), e) in
      ap (take (k + 1)) split_at ∙ take_at (front ++ 58 ∷ []) (decimal n) (k + 1) at

  pub number_behind : (k : ℕ) → k ≡ length front → drop (k + 1) bytes ≡ decimal n
  number_behind k e =
      let at : length (front ++ 58 ∷ []) ≡ k + 1 = omega (arith, length-append front (58 ∷ []), e) in
      ap (drop (k + 1)) split_at ∙ drop_at (front ++ 58 ∷ []) (decimal n) (k + 1) at

-- ---- strings

digit_plain : (d : ℕ) → d < 16 → (eqb (digit_char d) 34 ≡ false) × (eqb (digit_char d) 92 ≡ false)
digit_plain d lt = (grind (arith, nat_tests), grind (arith, nat_tests))

no_letter : (x : ℕ) → nat_lt 0 (escape_letter x) ≡ false → (eqb x 34 ≡ false) × (eqb x 92 ≡ false)
no_letter x e = (grind (arith, nat_tests), grind (arith, nat_tests))

behind_byte : (x : ℕ) (rest : List ℕ) → behind_string false (escape_byte x ++ rest) ≡ behind_string false rest
unfolding escape_byte
behind_byte x rest = by_letter (nat_lt 0 (escape_letter x)) refl
  where
    by_code : (t : Bool) → nat_lt x 32 ≡ t → nat_lt 0 (escape_letter x) ≡ false
        → behind_string false
        (cond t (92 ∷ 117 ∷ 48 ∷ 48 ∷ digit_char (x / 16) ∷ digit_char (x % 16) ∷ []) (x ∷ []) ++ rest)
        ≡ behind_string false rest
    by_code true e plain =
        let small : x < 32 = grind (arith, nat_tests) in
        let high = digit_plain (x / 16) (omega arith) in
        let low = digit_plain (x % 16) (omega arith) in
        rw (high.0, high.1, low.0, low.1) refl
    by_code false e plain = let p = no_letter x plain in rw (p.0, p.1) refl

    by_letter : (t : Bool) → nat_lt 0 (escape_letter x) ≡ t
        → behind_string false (cond t (92 ∷ escape_letter x ∷ [])
        (cond (nat_lt x 32) (92 ∷ 117 ∷ 48 ∷ 48 ∷ digit_char (x / 16) ∷ digit_char (x % 16) ∷ []) (x ∷ [])) ++ rest)
        ≡ behind_string false rest
    by_letter true e = refl
    by_letter false e = by_code (nat_lt x 32) refl e

pub behind_escaped : (s rest : List ℕ) → behind_string false (escape s ++ rest) ≡ behind_string false rest
behind_escaped [] rest = refl
behind_escaped (x ∷ s) rest =
    ap (behind_string false) (append_assoc (escape_byte x) (escape s) rest) ∙ behind_byte x (escape s ++ rest)
    ∙ behind_escaped s rest

pub behind_quoted : (bytes s rest : List ℕ) → bytes ≡ quoted s ++ rest → behind_string false (drop 1 bytes) ≡ Some rest
behind_quoted bytes s rest e =
    ap (λ b. behind_string false (drop 1 b)) e ∙ ap (behind_string false) (append_assoc (escape s) (34 ∷ []) rest)
    ∙ behind_escaped s (34 ∷ rest)

one_behind : (bytes : List ℕ) (i : ℕ) (e : Bool) → i < length bytes
    → behind_string e (drop i bytes) ≡ behind_string e (get_or bytes i 0 ∷ drop (i + 1) bytes)
one_behind bytes i e lt = ap (behind_string e) (drop_more bytes i 0 lt)

pub string_split : (bytes s rest : List ℕ) (i : ℕ) → bytes ≡ quoted s ++ rest
    → drop i bytes ≡ rest → take i bytes ≡ quoted s
string_split bytes s rest i e d =
    append_cancel_right (take i bytes) (quoted s) rest
    (ap (λ r. take i bytes ++ r) (sym d) ∙ take-append-drop i bytes ∙ e)

pub quote_ends : (bytes : List ℕ) (i : ℕ) → i < length bytes → get_or bytes i 0 ≡ 34
    → behind_string false (drop i bytes) ≡ Some (drop (i + 1) bytes)
quote_ends bytes i lt e = one_behind bytes i false lt ∙ ap (λ x. behind_string false (x ∷ drop (i + 1) bytes)) e

pub escaped_step : (bytes : List ℕ) (i : ℕ) (e f : Bool) → i < length bytes → e ≡ true → f ≡ false
    → behind_string e (drop i bytes) ≡ behind_string f (drop (i + 1) bytes)
escaped_step bytes i e f lt is then = rw (is, then) (one_behind bytes i true lt)

pub plain_step : (bytes : List ℕ) (i : ℕ) (e f : Bool) → i < length bytes → e ≡ false → get_or bytes i 0 ≢ 34
    → f ≡ eqb (get_or bytes i 0) 92 → behind_string e (drop i bytes) ≡ behind_string f (drop (i + 1) bytes)
plain_step bytes i e f lt is other then =
    let differs : eqb (get_or bytes i 0) 34 ≡ false = grind (arith, nat_tests) in
    rw (is, then) (one_behind bytes i false lt ∙ rw differs refl)

pub nothing_behind : (e : Bool) → behind_string e [] ≡ None
nothing_behind true = refl
nothing_behind false = refl

pub whole_rest : (bytes : List ℕ) (at : ℕ) → take (length bytes - at) (drop at bytes) ≡ drop at bytes
whole_rest bytes at = take_all (length bytes - at) (drop at bytes) (omega (arith, length-drop at bytes))

-- ---- begins and ends

-- what `strip_prefix` and `strip_suffix` say
abbrev pub Stripped : List ℕ → List ℕ → Option (Bor (List ℕ)) → Type 0
Stripped s p r = MatchOption r (pointwise eqb (take (length p) s) p ≡ false) (λ x.
    (pointwise eqb (take (length p) s) p ≡ true) × (x.now ≡ drop (length p) s) × (length x.now + length p ≡ length s))

abbrev pub StrippedEnd : List ℕ → List ℕ → Option (Bor (List ℕ)) → Type 0
StrippedEnd s p r = MatchOption r (pointwise eqb (drop (length s - length p) s) p ≡ false) (λ x.
    (pointwise eqb (drop (length s - length p) s) p ≡ true) × (x.now ≡ take (length s - length p) s)
    × (length x.now + length p ≡ length s))

found_front : (s p : List ℕ) (r : Option (Bor (List ℕ))) → MatchOption r ((rest : List ℕ) → s ≢ p ++ rest) (λ x. s ≡ p ++ x.now)
    → IfSome r (λ x. s ≡ p ++ x.now)
found_front s p None h = tt
found_front s p (Some x) h = h

given_front : (s p : List ℕ) (r : Option (Bor (List ℕ))) → MatchOption r ((rest : List ℕ) → s ≢ p ++ rest) (λ x. s ≡ p ++ x.now)
    → (rest : List ℕ) → s ≡ p ++ rest → IsSomeAnd r (λ x. x.now ≡ rest)
given_front s p None h rest e = absurd (h rest e)
given_front s p (Some x) h rest e = append_cancel_left p x.now rest (sym h ∙ e)

found_end : (s p : List ℕ) (r : Option (Bor (List ℕ))) → MatchOption r ((front : List ℕ) → s ≢ front ++ p) (λ x. s ≡ x.now ++ p)
    → IfSome r (λ x. s ≡ x.now ++ p)
found_end s p None h = tt
found_end s p (Some x) h = h

given_end : (s p : List ℕ) (r : Option (Bor (List ℕ))) → MatchOption r ((front : List ℕ) → s ≢ front ++ p) (λ x. s ≡ x.now ++ p)
    → (front : List ℕ) → s ≡ front ++ p → IsSomeAnd r (λ x. x.now ≡ front)
given_end s p None h front e = absurd (h front e)
given_end s p (Some x) h front e = append_cancel_right x.now front p (sym h ∙ e)

pub behind_found : (s p : List ℕ) (r : Option (Bor (List ℕ))) → Stripped s p r → IfSome r (λ x. s ≡ p ++ x.now)
behind_found s p r h = found_front s p r (strip_prefix_is Decides-eqb s p r h)

pub behind_given : (s p : List ℕ) (r : Option (Bor (List ℕ))) → Stripped s p r → (rest : List ℕ) → s ≡ p ++ rest
    → IsSomeAnd r (λ x. x.now ≡ rest)
behind_given s p r h = given_front s p r (strip_prefix_is Decides-eqb s p r h)

pub before_found : (s p : List ℕ) (r : Option (Bor (List ℕ))) → StrippedEnd s p r → IfSome r (λ x. s ≡ x.now ++ p)
before_found s p r h = found_end s p r (strip_suffix_is Decides-eqb s p r h)

pub before_given : (s p : List ℕ) (r : Option (Bor (List ℕ))) → StrippedEnd s p r → (front : List ℕ) → s ≡ front ++ p
    → IsSomeAnd r (λ x. x.now ≡ front)
before_given s p r h = given_end s p r (strip_suffix_is Decides-eqb s p r h)
