use Rattle.city_tokens.proofs.Prelude.{◌≡◌, [], ◌++◌, refl, ap, ◌∙◌, arith, IfSome_then, token_of, array, items_of}
use Rattle.city_tokens.proofs.Reading.{seen_token, array_value}
use Rattle.city_tokens.proofs.list.SequenceFromTokens.from_tokens.Goals as goal

pub returns : goal.returns
returns g c =
    let empty : c.in_ok-room.room.items ≡ [] = grind arith in
    IfSome_then c.read_rest.result c.read_rest.ensures (λ all rest.
    let same : all ≡ rest.0 = rest.2 ∙ ap (λ xs. xs ++ rest.0) empty in
    let seen = seen_token c.in_ok-next.ensures (ap token_of c.in-BeginArray.is) refl
    (array_value c.args.depth _ _ _ (omega arith) rest.4) in
    (array (items_of rest.1), seen, (rest.1, refl, rw same rest.3)))
