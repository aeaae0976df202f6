use Rattle.city_tokens.proofs.Prelude.{Some, sym, ap, IfSome_then, string}
use Rattle.city_tokens.proofs.text.IdFromTokens.from_tokens.Goals as goal

pub returns : goal.returns
returns c =
    IfSome_then c.text_of.result c.text_of.ensures
    (λ copy is. (string c.in_ok-text.text.now, c.in_ok-text.ensures c.args._depth, ap Some (sym is)))
