use Rattle.city_texts.proofs.Prelude.{refl, ap, arith, IfSome_then, token_of, object}
use Rattle.city_tokens.proofs.Reading.{seen_token, object_value}
use Rattle.city_texts.proofs.in_pieces.read_objects.Goals as goal

pub returns : goal.returns
returns c =
    IfSome_then c.rest_of_objects.result c.rest_of_objects.ensures (λ es rest.
    let seen = seen_token c.in_ok-next.ensures (ap token_of c.in-BeginObject.is) refl
    (object_value 126 _ _ _ (omega arith) rest.1) in
    (object rest.0, seen, (rest.0, refl, rest.2)))
