-- The compact text of a value has no newline in it.
use Rattle.city_diagnostics.proofs.Prelude.{◌≡◌, ◌++◌, ◌∷◌, ◌==◌, List, ℕ, [], suc, zero, Bool, true, false, not, refl}
use Rattle.city_diagnostics.proofs.Prelude.{list_all-append, and_from, arith, is_one_line, nat_lt}
use Rattle.city_diagnostics.proofs.Prelude.{Data, Items, Members, Num, null, boolean, number, string, array, object}
use Rattle.city_diagnostics.proofs.Prelude.{no_items, item, no_members, member, unsigned, negative, float}
use Rattle.city_diagnostics.proofs.Prelude.{compact_text, items_text, members_text, number_text, comma_if, cond}
use Rattle.city_diagnostics.proofs.Prelude.{◌∙◌, pos, negsuc}
use Rattle.std.proofs.Common.{◌/◌, ◌%◌, inl, inr, subst, sym}
use Rattle.std.proofs.lemmas.Bool.{cases_eq}
use Rattle.std.proofs.lemmas.Bool.Decides.{nat_tests}
use Rattle.std.specs.Char.{digit_char}
use Rattle.std.specs.Fmt.{decimal, digit_glyph, digits, digits_onto}
use Rattle.json.specs.Print.{escape, escape_byte, escape_letter, quoted}

joined : (xs ys : List ℕ) → is_one_line xs ≡ true → is_one_line ys ≡ true → is_one_line (xs ++ ys) ≡ true
joined xs ys h g = list_all-append (λ byte. not (byte == 10)) xs ys ∙ and_from _ _ h g

glyph_stays : (upper : Bool) (d : ℕ) → not (digit_glyph upper d == 10) ≡ true
glyph_stays upper d = grind (arith, nat_tests)

either_stays : (b : Bool) (xs ys : List ℕ) → is_one_line xs ≡ true → is_one_line ys ≡ true
    → is_one_line (cond b xs ys) ≡ true
either_stays true xs ys h g = h
either_stays false xs ys h g = g

digits_stay : (k base : ℕ) (upper : Bool) (n : ℕ) (acc : List ℕ) → is_one_line acc ≡ true
    → is_one_line (digits_onto k base upper n acc) ≡ true
digits_stay zero base upper n acc h = h
digits_stay (suc k) base upper n acc h =
    let d = digit_glyph upper (n % base) in
    let more : is_one_line (d ∷ acc) ≡ true = and_from _ _ (glyph_stays upper (n % base)) h in
    either_stays (n / base == 0) (d ∷ acc) (digits_onto k base upper (n / base) (d ∷ acc)) more
    (digits_stay k base upper (n / base) (d ∷ acc) more)

decimal_stays : (n : ℕ) → is_one_line (decimal n) ≡ true
unfolding digits
decimal_stays n = digits_stay 64 10 false n [] refl

number_stays : (n : Num) → is_one_line (number_text n) ≡ true
number_stays (unsigned n) = decimal_stays n
number_stays (negative (pos n)) = decimal_stays n
number_stays (negative (negsuc n)) = decimal_stays (suc n)
number_stays (float x) = refl

char_stays : (d : ℕ) → not (digit_char d == 10) ≡ true
char_stays d = grind (arith, nat_tests)

letter_stays : (x : ℕ) → not (escape_letter x == 10) ≡ true
letter_stays x = grind (arith, nat_tests)

other_stays : (x : ℕ) → (x ≡ 10 → ⊥) → not (x == 10) ≡ true
other_stays x other = grind (arith, nat_tests)

byte_stays : (x : ℕ) → is_one_line (escape_byte x) ≡ true
unfolding escape_byte
byte_stays x = elim (cases_eq x 10) [
  | inl is ↦ subst (λ (y : ℕ). is_one_line (escape_byte y) ≡ true) (sym is) refl
  | inr other ↦ either_stays (nat_lt 0 (escape_letter x)) (92 ∷ escape_letter x ∷ []) _
      (and_from _ _ (letter_stays x) refl)
      (either_stays (nat_lt x 32) _ (x ∷ [])
      (and_from _ _ (char_stays (x / 16)) (and_from _ _ (char_stays (x % 16)) refl))
      (and_from _ _ (other_stays x other) refl))
]

escape_stays : (s : List ℕ) → is_one_line (escape s) ≡ true
escape_stays [] = refl
escape_stays (x ∷ s) = joined (escape_byte x) (escape s) (byte_stays x) (escape_stays s)

quoted_stays : (s : List ℕ) → is_one_line (quoted s) ≡ true
quoted_stays s = joined (escape s) (34 ∷ []) (escape_stays s) refl

comma_stays : (later : Bool) → is_one_line (comma_if later) ≡ true
comma_stays true = refl
comma_stays false = refl

mutual
  pub text_stays : (d : Data) → is_one_line (compact_text d) ≡ true
  text_stays null = refl
  text_stays (boolean true) = refl
  text_stays (boolean false) = refl
  text_stays (number n) = number_stays n
  text_stays (string s) = quoted_stays s
  text_stays (array ds) = items_stay false ds
  text_stays (object ms) = members_stay false ms

  items_stay : (later : Bool) (ds : Items) → is_one_line (items_text later ds) ≡ true
  items_stay later no_items = refl
  items_stay later (item d ds) =
      joined (comma_if later) _ (comma_stays later) (joined (compact_text d) _ (text_stays d) (items_stay true ds))

  members_stay : (later : Bool) (ms : Members) → is_one_line (members_text later ms) ≡ true
  members_stay later no_members = refl
  members_stay later (member k d ms) =
      joined (comma_if later) _ (comma_stays later)
      (joined (quoted k) _ (quoted_stays k) (joined (compact_text d) _ (text_stays d) (members_stay true ms)))
