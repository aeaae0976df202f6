-- Texts and names in JSON, as a reader finds them.
use Rattle.std.proofs.Common.{◌≡◌, ◌∙◌, ◌∷◌, [], ℕ, List, refl, sym, ap}
use Rattle.std.proofs.Common.{Err, IfOk, IsSome, IsSomeAnd, None, Ok, Option, Result, Some}
use Rattle.json.specs.Lex.{tokens}
use Rattle.json.specs.Print.{quoted, ArePrintable}
use Rattle.json.specs.Token.{string}
use Rattle.json.proofs.Printed.Tokens.{tokens-print}
use Rattle.city_journal.proofs.Written.{print_string}

printable : (s : List ℕ) → ArePrintable (string s ∷ [])
unfolding ArePrintable
printable s = (tt, tt)

pub tokens_quoted : (s : List ℕ) → tokens (quoted s) ≡ string s ∷ []
tokens_quoted s = ap tokens (sym (print_string s)) ∙ tokens-print (string s ∷ []) (printable s)

pub is_some_ok : {T E : Type 0} (r : Result (Option T) E) (P : T → Type 0) → IfOk r (λ o. IsSomeAnd o P)
    → IfOk r (λ o. IsSome o)
is_some_ok (Ok None) P h = absurd h
is_some_ok (Ok (Some x)) P h = refl
is_some_ok (Err e) P h = tt
