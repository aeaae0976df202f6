-- One lexeme at the front of a text.
use Rattle.std.proofs.Common.{◌≡◌, ℕ, ◌<◌, Bool, true, false, cond, List, [], ◌∷◌, ◌++◌, length, take, drop, Some}
use Rattle.std.proofs.Common.{sym, ap, ap₂, ◌∙◌, subst, arith}
use Rattle.std.proofs.lemmas.Bool.{false≢true}
use Rattle.std.proofs.lemmas.List.{take-append-drop}
use Rattle.json.specs.Ascii.{true_text, false_text, null_text}
use Rattle.json.specs.Token.{boolean, null, number, string, bad}
use Rattle.json.specs.Text.{content, plain}
use Rattle.json.specs.Print.{escape}
use Rattle.json.specs.Word.{head, ends_word, after_number, word}
use Rattle.json.specs.Lex.{Class, token, class, quote, backslash, operator, space, other, operator_lexeme}
use Rattle.json.specs.Lex.{string_token, between, in_string, lex_byte, lex}
use Rattle.json.specs.Written.{PlainBetween}
use Rattle.json.proofs.Printed.Numbers.{in_word-ended, lex-number, number_alone}
use Rattle.json.proofs.Printed.Plain.{escape_on_plain}
use Rattle.json.proofs.Printed.Strings.{content-escape, lex-escape}
use Rattle.city_reader.specs.Cursor.{IsLexeme}

abbrev is_mark : Class → Bool
is_mark quote = false
is_mark backslash = false
is_mark operator = true
is_mark space = false
is_mark other = false

-- a bracket, a brace, a comma or a colon
pub operator_some : (t : List ℕ) → class (head t) ≡ operator → 0 < length t
operator_some [] e = absurd (false≢true (ap is_mark e))
operator_some (x ∷ xs) e = omega arith

pub lex-operator : (t : List ℕ) → class (head t) ≡ operator → IsLexeme t (operator_lexeme (head t)) (drop 1 t)
unfolding lex
lex-operator [] e = absurd (false≢true (ap is_mark e))
lex-operator (x ∷ xs) e = ap (λ c. lex_byte between c x xs (λ m. lex m xs)) e

-- a string of plain bytes
pub lex-string : (s r : List ℕ) → PlainBetween s 0 (length s) → IsLexeme (34 ∷ (s ++ 34 ∷ r)) (token (string s)) r
unfolding lex
lex-string s r h =
    let same : escape s ≡ s = escape_on_plain true s h in
    let u = λ (e : List ℕ). e ++ 34 ∷ r in
    ap₂ (λ o l. token (string_token o) ∷ l) (ap (λ e. content plain (u e)) (sym same) ∙ content-escape s r)
    (ap (λ e. lex in_string (u e)) (sym same) ∙ lex-escape s r)

-- words
lex-whole : (s rest : List ℕ) → after_number (s ++ rest) ≡ Some rest → ends_word rest ≡ true
    → IsLexeme (s ++ rest) (token (number s)) rest
lex-whole s rest e ended = lex-number s rest (number_alone s rest ended e) ended

pub lex-front : (t : List ℕ) (len : ℕ) → after_number t ≡ Some (drop len t) → ends_word (drop len t) ≡ true
    → IsLexeme t (token (number (take len t))) (drop len t)
lex-front t len found ended =
    let text = take-append-drop len t in
    subst (λ u. IsLexeme u (token (number (take len t))) (drop len t)) text
    (lex-whole (take len t) (drop len t) (ap after_number text ∙ found) ended)

pub lex-true : (r : List ℕ) → ends_word r ≡ true → IsLexeme (true_text ++ r) (token (boolean true)) r
unfolding lex word
lex-true r ended = ap₂ (λ b l. token (cond b (boolean true) bad) ∷ l) ended (in_word-ended r ended)

pub lex-false : (r : List ℕ) → ends_word r ≡ true → IsLexeme (false_text ++ r) (token (boolean false)) r
unfolding lex word
lex-false r ended = ap₂ (λ b l. token (cond b (boolean false) bad) ∷ l) ended (in_word-ended r ended)

pub lex-null : (r : List ℕ) → ends_word r ≡ true → IsLexeme (null_text ++ r) (token null) r
unfolding lex word
lex-null r ended = ap₂ (λ b l. token (cond b null bad) ∷ l) ended (in_word-ended r ended)
