-- A newline behind a printed text changes none of its tokens.
use Rattle.std.proofs.Common.{arith, inl, inr}
use Rattle.city_decimals.proofs.Prelude.{◌≡◌, ℕ, Bool, true, false, cond, ◌&&◌, List, [], ◌∷◌, ◌++◌, refl, sym, ap, ap₂}
use Rattle.city_decimals.proofs.Prelude.{◌∙◌, subst, append_assoc, append-nil, Token, Json, HasNumbers, print}
use Rattle.city_decimals.proofs.Prelude.{json_tokens, tokens, escape, quoted}
use Rattle.json.specs.Token.{begin_object, end_object, begin_array, end_array, key, string, number, boolean, null, bad}
use Rattle.json.specs.Word.{ends_word, word}
use Rattle.json.specs.Lex.{Lexeme, token, colon, lex, between, fresh, punctuate}
use Rattle.json.specs.Print.{token_text, begins, ends, separator, print_from, IsPrintable, ArePrintable}
use Rattle.json.proofs.Printed.Strings.{content-escape, lex-escape}
use Rattle.json.proofs.Printed.Numbers.{lex-number, in_word-ended}
use Rattle.json.proofs.Printed.Trees.{ArePrintable-json_tokens}
use Rattle.city_decimals.specs.internal.Newlines.{IsBody}

-- after a value stands a comma, a closing bracket, or what follows all tokens
value_ends : (ts : List Token) (r : List ℕ) → ends_word r ≡ true → ends_word (print_from true ts ++ r) ≡ true
unfolding print_from
value_ends [] r e = e
value_ends (begin_object ∷ ts) r e = refl
value_ends (end_object ∷ ts) r e = refl
value_ends (begin_array ∷ ts) r e = refl
value_ends (end_array ∷ ts) r e = refl
value_ends (key s ∷ ts) r e = refl
value_ends (string s ∷ ts) r e = refl
value_ends (number s ∷ ts) r e = refl
value_ends (boolean b ∷ ts) r e = refl
value_ends (null ∷ ts) r e = refl
value_ends (bad ∷ ts) r e = refl

lex_quoted : (s r : List ℕ) → lex between (quoted s ++ r) ≡ token (string s) ∷ lex between r
unfolding lex
lex_quoted s r = search (arith, append_assoc, escape, content-escape, lex-escape)

-- the lexemes of a token, whatever stands behind it
lexed : (t : Token) → IsPrintable t → (ls : List Lexeme)
    × ((r : List ℕ) → (ends t ≡ true → ends_word r ≡ true) → lex between (token_text t ++ r) ≡ ls ++ lex between r)
unfolding lex word
lexed begin_object h = (token begin_object ∷ [], λ r e. refl)
lexed end_object h = (token end_object ∷ [], λ r e. refl)
lexed begin_array h = (token begin_array ∷ [], λ r e. refl)
lexed end_array h = (token end_array ∷ [], λ r e. refl)
lexed (key s) h = (
  token (string s) ∷ colon ∷ [],
  λ r e. ap (lex between) (append_assoc (quoted s) (58 ∷ []) r) ∙ lex_quoted s (58 ∷ r),
)
lexed (string s) h = (token (string s) ∷ [], λ r e. lex_quoted s r)
lexed (number s) h = (token (number s) ∷ [], λ r e. lex-number s r h (e refl))
lexed (boolean true) h = (
  token (boolean true) ∷ [],
  λ r e. ap₂ (λ b l. token (cond b (boolean true) bad) ∷ l) (e refl) (in_word-ended r (e refl)),
)
lexed (boolean false) h = (
  token (boolean false) ∷ [],
  λ r e. ap₂ (λ b l. token (cond b (boolean false) bad) ∷ l) (e refl) (in_word-ended r (e refl)),
)
lexed null h = (
  token null ∷ [],
  λ r e. ap₂ (λ b l. token (cond b null bad) ∷ l) (e refl) (in_word-ended r (e refl)),
)
lexed bad h = absurd h

behind_comma : (b : Bool) (x y : List ℕ) → lex between x ≡ lex between y
    → lex between (cond b (44 ∷ []) [] ++ x) ≡ lex between (cond b (44 ∷ []) [] ++ y)
unfolding lex
behind_comma b x y e = grind arith

no_lexeme : (c : Bool) (ts : List Token) → ArePrintable ts
    → lex between (print_from c ts ++ 10 ∷ []) ≡ lex between (print_from c ts)
unfolding lex print_from ArePrintable
no_lexeme c [] h = refl
no_lexeme c (t ∷ ts) h =
    let one = lexed t h.0 in
    let text = token_text t in
    let rest = print_from (ends t) ts in
    let last : List ℕ = 10 ∷ [] in
    ap (lex between) (append_assoc (separator c t) (text ++ rest) last
    ∙ ap (λ l. separator c t ++ l) (append_assoc text rest last))
    ∙ behind_comma (c && begins t) (text ++ (rest ++ last)) (text ++ rest)
    (one.1 (rest ++ last) (λ e. ap (λ b. ends_word (print_from b ts ++ last)) e ∙ value_ends ts last refl)
    ∙ ap (λ l. one.0 ++ l) (no_lexeme (ends t) ts h.1)
    ∙ sym (one.1 rest (λ e. ap (λ b. ends_word (print_from b ts)) e
    ∙ ap ends_word (sym (append-nil (print_from true ts))) ∙ value_ends ts [] refl)))

-- a text and its body have the same tokens, if the body is printed
pub same_tokens : (text body : List ℕ) (j : Json) → IsBody text body → HasNumbers j → print (json_tokens j) ≡ body
    → tokens text ≡ tokens body
same_tokens text body j (inl e) numbers is = ap tokens e
same_tokens text body j (inr e) numbers is =
    ap tokens e ∙ subst (λ b. tokens (b ++ 10 ∷ []) ≡ tokens b) is
    (ap (punctuate fresh) (no_lexeme false (json_tokens j) (ArePrintable-json_tokens j numbers)))
