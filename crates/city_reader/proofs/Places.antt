-- Lexemes at a place of a text.
use Rattle.std.proofs.Common.{◌≡◌, ℕ, ◌+◌, ◌-◌, ◌<◌, ◌≤◌, true, List, ◌∷◌, ◌++◌, length, take, drop, get_or, Some}
use Rattle.std.proofs.Common.{sym, ap, ap₂, ◌∙◌, subst, arith, get_or-take, get_or-drop, lt_of_not-le, add-zero}
use Rattle.std.proofs.lemmas.List.{drop-drop, drop_more, get_or_default, get_or_past, length-drop, length-take-le}
use Rattle.std.proofs.lemmas.List.{take-append-drop}
use Rattle.json.specs.Run.{is_plain}
use Rattle.json.specs.Token.{number, string}
use Rattle.json.specs.Word.{head, ends_word, after_number}
use Rattle.json.specs.Lex.{token}
use Rattle.json.specs.Written.{PlainBetween}
use Rattle.std.proofs.lemmas.Slice.Eq.{bytes_eq-Decides}
use Rattle.std.specs.Str.{bytes_eq}
use Rattle.city_reader.specs.Cursor.{IsLexeme}
use Rattle.city_reader.proofs.Lexemes.{lex-string, lex-front}

pub record AtByte (d : List ℕ) (p x : ℕ) : Type 0 where
  pub within : p < length d
  pub byte : get_or d p 0 ≡ x
  pub begins : drop p d ≡ x ∷ drop (p + 1) d

-- a byte other than a space stands within the text
pub byte_at : (d : List ℕ) (p x : ℕ) → 32 < x → get_or d p 32 ≡ x → AtByte d p x
byte_at d p x solid e =
    let within : p < length d = lt_of_not-le (λ h. omega (arith, get_or_past d p 32 h)) in
    let byte : get_or d p 0 ≡ x = get_or_default d p 0 32 within ∙ e in
    record { within = within; byte = byte; begins = drop_more d p 0 within ∙ ap (λ y. y ∷ drop (p + 1) d) byte }

pub head_at : (d : List ℕ) (p : ℕ) → head (drop p d) ≡ get_or d p 32
head_at d p = get_or-drop p d 0 32 ∙ ap (λ j. get_or d j 32) (add-zero p)

split : (d : List ℕ) (p e : ℕ) → p ≤ e → drop p d ≡ take (e - p) (drop p d) ++ drop e d
split d p e le =
    let there : p + (e - p) ≡ e = omega arith in
    sym (take-append-drop (e - p) (drop p d))
    ∙ ap (λ t. take (e - p) (drop p d) ++ t) (drop-drop (e - p) p d ∙ ap (λ k. drop k d) there)

-- the string between two quotes
pub string_at : (d : List ℕ) (p stop : ℕ) → get_or d p 32 ≡ 34 → get_or d stop 32 ≡ 34 → p + 1 ≤ stop
    → PlainBetween d (p + 1) stop
    → IsLexeme (drop p d) (token (string (take (stop - (p + 1)) (drop (p + 1) d)))) (drop (stop + 1) d)
string_at d p stop first last le plain =
    let q = byte_at d p 34 (omega arith) first in
    let r = byte_at d stop 34 (omega arith) last in
    let n = stop - (p + 1) in
    let s = take n (drop (p + 1) d) in
    let long : length s ≡ n =
    length-take-le n (drop (p + 1) d) (omega (arith, r.within, length-drop (p + 1) d)) in
    let inside : PlainBetween s 0 (length s) =
    λ k low high. ap is_plain (get_or-take n (drop (p + 1) d) k 0 (omega (arith, long)) ∙ get_or-drop (p + 1) d k 0)
    ∙ plain (p + 1 + k) (omega arith) (omega (arith, long)) in
    let text : drop p d ≡ 34 ∷ (s ++ 34 ∷ drop (stop + 1) d) =
    q.begins ∙ ap (λ t. 34 ∷ t) (split d (p + 1) stop le ∙ ap (λ t. s ++ t) r.begins) in
    subst (λ t. IsLexeme t (token (string s)) (drop (stop + 1) d)) (sym text) (lex-string s (drop (stop + 1) d) inside)

pub number_at : (d : List ℕ) (p e : ℕ) → p ≤ e → after_number (drop p d) ≡ Some (drop e d) → ends_word (drop e d) ≡ true
    → IsLexeme (drop p d) (token (number (take (e - p) (drop p d)))) (drop e d)
number_at d p e le found ended =
    let there : p + (e - p) ≡ e = omega arith in
    let left : drop (e - p) (drop p d) ≡ drop e d = drop-drop (e - p) p d ∙ ap (λ k. drop k d) there in
    subst (IsLexeme (drop p d) (token (number (take (e - p) (drop p d))))) left
    (lex-front (drop p d) (e - p) (found ∙ ap Some (sym left)) (ap ends_word left ∙ ended))

pub word_at : (d name : List ℕ) (at : ℕ) → at ≤ length d → bytes_eq name (take (length name) (drop at d)) ≡ true
    → drop at d ≡ name ++ drop (at + length name) d
word_at d name at le e =
    sym (take-append-drop (length name) (drop at d))
    ∙ ap₂ (λ a b. a ++ b) (sym ((bytes_eq-Decides name _).0 e)) (drop-drop (length name) at d)
