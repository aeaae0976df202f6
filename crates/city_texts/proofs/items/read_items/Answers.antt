use Rattle.city_texts.proofs.Prelude.{refl, ap, IfSome_then, token_of, array, items_of}
use Rattle.city_tokens.proofs.Reading.{seen_token, items_value}
use Rattle.city_texts.proofs.items.read_items.Goals as goal

pub returns-clause-read : goal.returns-clause-read
returns-clause-read g c =
    IfSome_then c.rest_of_items.result c.rest_of_items.ensures.read (λ xs rest.
    let seen = seen_token c.in_ok-next.ensures (ap token_of c.in-BeginArray.is) refl
    (items_value c.args.depth _ _ _ rest.2) in
    (array (items_of rest.0), seen, (rest.0, refl, rest.1)))
