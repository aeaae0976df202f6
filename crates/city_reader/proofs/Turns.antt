-- One token at the front of a text.
use Rattle.std.proofs.Common.{◌≡◌, ℕ, Bool, true, List, [], ◌∷◌, ◌++◌, false, drop, refl, sym, ap, ◌∙◌, ◌⊎◌, inl, inr}
use Rattle.std.proofs.lemmas.Bool.{false≢true}
use Rattle.json.specs.Token.{Token, begin_object, end_object, begin_array, end_array, string, number, boolean, null}
use Rattle.json.specs.Token as spec
use Rattle.json.specs.Ascii.{true_text, false_text, null_text}
use Rattle.json.specs.Word.{head, ends_word}
use Rattle.json.specs.Lex.{token, comma, colon, class, operator_lexeme, between, lex, Place, fresh, after_value}
use Rattle.json.specs.Lex.{after_comma, after_key, may_begin, may_close, if_allowed, punctuate}
use Rattle.city_reader.proofs.Lexemes.{lex-operator, lex-true, lex-false, lex-null}
use Rattle.city_reader.specs.Cursor.{IsLexeme}

-- the mark x is passed
abbrev pub IsMark : List ℕ → ℕ → List ℕ → Type 0
IsMark old x new = (head old ≡ x) × IsLexeme old (operator_lexeme (head old)) new

mark : (old new : List ℕ) (x : ℕ) → IsMark old x new → IsLexeme old (operator_lexeme x) new
mark old new x h = h.1 ∙ ap (λ y. operator_lexeme y ∷ lex between new) h.0

allowed : (b : Bool) (t : Token) (k : Place → List Token) (next : Place) → b ≡ true → if_allowed b t k next ≡ t ∷ k next
allowed b t k next e = ap (λ x. if_allowed x t k next) e

pub after_comma_comes : (old seen new : List ℕ) → lex between seen ≡ lex between old → IsMark seen 44 new
    → punctuate after_comma (lex between new) ≡ punctuate after_value (lex between old)
unfolding punctuate
after_comma_comes old seen new same h = sym (ap (punctuate after_value) (sym same ∙ mark seen new 44 h))

module _ (old after seen s : List ℕ) (p : Place) (one : IsLexeme old (token (string s)) after)
    (same : lex between seen ≡ lex between after) (may : may_begin p ≡ true) where
  pub key : (new : List ℕ) → IsMark seen 58 new
      → punctuate p (lex between old) ≡ spec.key s ∷ punctuate fresh (lex between new)
  unfolding punctuate
  key new h =
      ap (punctuate p) (one ∙ ap (λ ls. token (string s) ∷ ls) (sym same ∙ mark seen new 58 h))
      ∙ allowed (may_begin p) (spec.key s) (λ n. punctuate n (colon ∷ lex between new)) after_key may

  pub text_comma : (new : List ℕ) → IsMark seen 44 new
      → punctuate p (lex between old) ≡ string s ∷ punctuate after_comma (lex between new)
  unfolding punctuate
  text_comma new h =
      ap (punctuate p) (one ∙ ap (λ ls. token (string s) ∷ ls) (sym same ∙ mark seen new 44 h))
      ∙ allowed (may_begin p) (string s) (λ n. punctuate n (comma ∷ lex between new)) after_value may

  pub text_end : (head seen ≡ 93) ⊎ (head seen ≡ 125)
      → punctuate p (lex between old) ≡ string s ∷ punctuate after_value (lex between seen)
  unfolding punctuate
  text_end (inl e) =
      let next = mark seen (drop 1 seen) 93 (e, lex-operator seen (ap class e)) in
      ap (punctuate p) (one ∙ ap (λ ls. token (string s) ∷ ls) (sym same ∙ next))
      ∙ allowed (may_begin p) (string s) (λ n. punctuate n (operator_lexeme 93 ∷ lex between (drop 1 seen)))
      after_value may
      ∙ ap (λ ls. string s ∷ punctuate after_value ls) (sym next)
  text_end (inr e) =
      let next = mark seen (drop 1 seen) 125 (e, lex-operator seen (ap class e)) in
      ap (punctuate p) (one ∙ ap (λ ls. token (string s) ∷ ls) (sym same ∙ next))
      ∙ allowed (may_begin p) (string s) (λ n. punctuate n (operator_lexeme 125 ∷ lex between (drop 1 seen)))
      after_value may
      ∙ ap (λ ls. string s ∷ punctuate after_value ls) (sym next)

pub object : (old new : List ℕ) (p : Place) → IsMark old 123 new → may_begin p ≡ true
    → punctuate p (lex between old) ≡ begin_object ∷ punctuate fresh (lex between new)
unfolding punctuate
object old new p h may =
    ap (punctuate p) (mark old new 123 h)
    ∙ allowed (may_begin p) begin_object (λ n. punctuate n (lex between new)) fresh may

pub array : (old new : List ℕ) (p : Place) → IsMark old 91 new → may_begin p ≡ true
    → punctuate p (lex between old) ≡ begin_array ∷ punctuate fresh (lex between new)
unfolding punctuate
array old new p h may =
    ap (punctuate p) (mark old new 91 h)
    ∙ allowed (may_begin p) begin_array (λ n. punctuate n (lex between new)) fresh may

pub object_end : (old new : List ℕ) (p : Place) (ts : List Token) → IsMark old 125 new
    → ts ≡ punctuate after_value (lex between new) → may_close p ≡ true
    → punctuate p (lex between old) ≡ end_object ∷ ts
unfolding punctuate
object_end old new p ts h rest may =
    ap (punctuate p) (mark old new 125 h)
    ∙ allowed (may_close p) end_object (λ n. punctuate n (lex between new)) after_value may
    ∙ ap (λ us. end_object ∷ us) (sym rest)

pub array_end : (old new : List ℕ) (p : Place) (ts : List Token) → IsMark old 93 new
    → ts ≡ punctuate after_value (lex between new) → may_close p ≡ true
    → punctuate p (lex between old) ≡ end_array ∷ ts
unfolding punctuate
array_end old new p ts h rest may =
    ap (punctuate p) (mark old new 93 h)
    ∙ allowed (may_close p) end_array (λ n. punctuate n (lex between new)) after_value may
    ∙ ap (λ us. end_array ∷ us) (sym rest)

pub number_next : (old new s : List ℕ) (p : Place) → IsLexeme old (token (number s)) new → may_begin p ≡ true
    → punctuate p (lex between old) ≡ number s ∷ punctuate after_value (lex between new)
unfolding punctuate
number_next old new s p one may =
    ap (punctuate p) one ∙ allowed (may_begin p) (number s) (λ n. punctuate n (lex between new)) after_value may

module _ (old new : List ℕ) (p : Place) (ended : ends_word new ≡ true) (may : may_begin p ≡ true) where
  pub true_next : old ≡ true_text ++ new
      → punctuate p (lex between old) ≡ boolean true ∷ punctuate after_value (lex between new)
  unfolding punctuate
  true_next e =
      ap (λ t. punctuate p (lex between t)) e ∙ ap (punctuate p) (lex-true new ended)
      ∙ allowed (may_begin p) (boolean true) (λ n. punctuate n (lex between new)) after_value may

  pub false_next : old ≡ false_text ++ new
      → punctuate p (lex between old) ≡ boolean false ∷ punctuate after_value (lex between new)
  unfolding punctuate
  false_next e =
      ap (λ t. punctuate p (lex between t)) e ∙ ap (punctuate p) (lex-false new ended)
      ∙ allowed (may_begin p) (boolean false) (λ n. punctuate n (lex between new)) after_value may

  pub null_next : old ≡ null_text ++ new
      → punctuate p (lex between old) ≡ null ∷ punctuate after_value (lex between new)
  unfolding punctuate
  null_next e =
      ap (λ t. punctuate p (lex between t)) e ∙ ap (punctuate p) (lex-null new ended)
      ∙ allowed (may_begin p) null (λ n. punctuate n (lex between new)) after_value may

pub end : (p : Place) → may_close p ≡ true → punctuate p (lex between []) ≡ []
unfolding lex punctuate
end fresh may = refl
end after_value may = refl
end after_comma may = absurd (false≢true may)
end after_key may = absurd (false≢true may)
