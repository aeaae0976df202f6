-- Hexadecimal digits, and the bytes that they stand for.
use Rattle.std.proofs.Common.{◌≡◌, ◌<◌, ◌∙◌, ◌+◌, ◌*◌, ◌/◌, ◌%◌, ℕ, zero, suc, List, [], ◌∷◌, ◌++◌, refl, ap, arith}
use Rattle.std.proofs.Common.{length, get_or, drop}
use Rattle.std.proofs.lemmas.Bool.Decides.{nat_tests}
use Rattle.std.specs.Char.{digit_char}
use Rattle.city_journal.specs.Sums.{hex_byte, hex_text}

pub digit_same : (a b : ℕ) → digit_char a ≡ digit_char b → a ≡ b
digit_same a b e = grind (arith, nat_tests)

pub byte_same : (a b : ℕ) (us vs : List ℕ) → hex_byte a ++ us ≡ hex_byte b ++ vs → (a ≡ b) × (us ≡ vs)
byte_same a b us vs e =
    let high = digit_same (a / 16) (b / 16) (ap (λ l. get_or l 0 0) e) in
    let low = digit_same (a % 16) (b % 16) (ap (λ l. get_or l 1 0) e) in
    (omega (arith, high, low), ap (drop 2) e)

pub text_same : (xs ys : List ℕ) → hex_text xs ≡ hex_text ys → xs ≡ ys
text_same [] [] e = refl
text_same [] (y ∷ ys) e = absurd (cc)
text_same (x ∷ xs) [] e = absurd (cc)
text_same (x ∷ xs) (y ∷ ys) e =
    let h = byte_same x y (hex_text xs) (hex_text ys) e in
    ap (λ b. b ∷ xs) h.0 ∙ ap (λ bs. y ∷ bs) (text_same xs ys h.1)

-- the digits of the byte at a place
pub byte_at : (xs : List ℕ) (i : ℕ) → i < length xs
    → hex_byte (get_or xs i 0) ≡ get_or (hex_text xs) (2 * i) 0 ∷ get_or (hex_text xs) (2 * i + 1) 0 ∷ []
byte_at [] i lt = absurd (omega (arith, lt))
byte_at (x ∷ xs) zero lt = refl
byte_at (x ∷ xs) (suc i) lt =
    let more : 2 * suc i + 1 ≡ suc (suc (2 * i + 1)) = omega arith in
    let twice : 2 * suc i ≡ suc (suc (2 * i)) = omega arith in
    rw (more, twice) (byte_at xs i (omega (arith, lt)))

pub hex_length : (xs : List ℕ) → length (hex_text xs) ≡ 2 * length xs
hex_length [] = refl
hex_length (x ∷ xs) = omega (arith, hex_length xs)

pub sum_digits : (sum : List ℕ) → length sum ≡ 32 → length (hex_text sum) ≡ 64
sum_digits sum count = hex_length sum ∙ ap (λ n. 2 * n) count
