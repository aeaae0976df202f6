-- The bytes of a character in a JSON text.
use Rattle.city_doc.proofs.Prelude.{◌≡◌, ℕ, suc, ◌<◌, ◌≤◌, List, ◌∷◌, ◌++◌, length, get_or, inl, inr, [], refl, sym}
use Rattle.city_doc.proofs.Prelude.{ap₂, subst, arith, append-nil, lt-ltb, encode_ascii, encode_utf8, escape}
use Rattle.std.proofs.Common.{◌/◌, ◌%◌}
use Rattle.std.proofs.lemmas.Bool.{cases_lt, le-ltb}
use Rattle.std.proofs.lemmas.Str.{inside_one}
use Rattle.std.specs.Char.{digit_char}
use Rattle.json.specs.Print.{escape_byte, escape_letter}
use Rattle.json.proofs.Printed.Strings.{escape_byte_plain}

-- after a short escape's backslash stands its letter
pub short_escape : (c : ℕ) → c < 128 → 0 < escape_letter c → escape (encode_utf8 c) ≡ 92 ∷ escape_letter c ∷ []
unfolding escape_byte
short_escape c low some = rw (encode_ascii c low, append-nil, lt-ltb 0 (escape_letter c) some) refl

-- another control character has its number
pub control_escape : (c : ℕ) → c < 32 → escape_letter c ≡ 0
    → escape (encode_utf8 c) ≡ 92 ∷ 117 ∷ 48 ∷ 48 ∷ digit_char (c / 16) ∷ digit_char (c % 16) ∷ []
unfolding escape_byte
control_escape c low none =
    let small : c < 128 = omega arith in rw (encode_ascii c small, append-nil, none, lt-ltb c 32 low) refl

plain_bytes : (xs : List ℕ) → ((k : ℕ) → k < length xs → escape_byte (get_or xs k 0) ≡ get_or xs k 0 ∷ [])
    → escape xs ≡ xs
plain_bytes [] plain = refl
plain_bytes (x ∷ xs) plain =
    ap₂ (λ (a b : List ℕ). a ++ b) (plain 0 (omega arith)) (plain_bytes xs (λ k below. plain (suc k) (omega arith)))

pub no_escape : (c : ℕ) → 32 ≤ c → escape_letter c ≡ 0 → escape (encode_utf8 c) ≡ encode_utf8 c
unfolding escape_byte
no_escape c printed none = plain_bytes (encode_utf8 c) (λ k below. elim (cases_lt (get_or (encode_utf8 c) k 0) 128) [
  | inl low ↦ subst (λ x. escape_byte x ≡ x ∷ []) (inside_one c [] (encode_utf8 c) k (sym (append-nil _)) below low)
      (rw (none, le-ltb c 32 printed))
  | inr high ↦ escape_byte_plain _ (λ e. omega arith) (λ e. omega arith) (omega arith)
])
