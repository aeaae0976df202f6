-- Tokens written one part after another.
use Rattle.city_lines.proofs.Prelude.{◌≡◌, ◌++◌, ◌∙◌, ◌∷◌, [], List, Token, append_assoc, append-nil, ap, sym, codes}
use Rattle.city_lines.proofs.Prelude.{key}
use Rattle.city_lines.specs.Errors.{TellsMore, TellsError}

pub none_more : (a : List Token) → TellsMore a a
none_more a = ([], sym (append-nil a))

pub more_by : (a b ts : List Token) → b ≡ a ++ ts → TellsMore a b
more_by a b ts e = (ts, e)

pub more_then : (a b c : List Token) → TellsMore a b → TellsMore b c → TellsMore a c
more_then a b c h k = (h.0 ++ k.0, k.1 ∙ ap (λ ts. ts ++ k.0) h.1 ∙ append_assoc a h.0 k.0)

pub error_then : (a b c : List Token) → b ≡ a ++ key (codes "error") ∷ [] → TellsMore b c → TellsError a c
error_then a b c e k =
    (k.0, k.1 ∙ ap (λ ts. ts ++ k.0) e ∙ append_assoc a (key (codes "error") ∷ []) k.0)
