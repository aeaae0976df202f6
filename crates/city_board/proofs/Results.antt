-- The value in a result or an option.
use Rattle.city_board.proofs.Prelude.{◌≡◌, Option, Some, subst}
use Rattle.std.proofs.Common.{IfSome, Result, Ok, MatchResult}

pub from_ok : {A E : Type 0} (r : Result A E) (x : A) (P : A → Type 0) (Q : E → Type 0) → r ≡ Ok x → MatchResult r P Q
    → P x
from_ok {A = A} {E = E} r x P Q is h = subst (λ (q : Result A E). MatchResult q P Q) is h

pub from_some : {A : Type 0} (o : Option A) (x : A) (P : A → Type 0) → o ≡ Some x → IfSome o P → P x
from_some {A = A} o x P is h = subst (λ (q : Option A). IfSome q P) is h
