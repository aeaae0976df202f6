use Rattle.city_tokens.proofs.Prelude.{◌≡◌, [], ◌∷◌, ◌++◌, refl, ap, ◌∙◌, arith, IfSome_then, array, items_of, Pairs}
use Rattle.city_tokens.proofs.Reading.{after_value}
use Rattle.city_tokens.proofs.boundaries.read_after.Goals as goal

pub returns : goal.returns
returns g c =
    let first = c.args.first in
    let started : c.push.new.self.items ≡ first ∷ [] = grind arith in
    IfSome_then c.read_rest.result c.read_rest.ensures (λ all rest before one.
    let pairs : Pairs g.T.FromTokens.stands (first ∷ rest.0) (one.0 ∷ rest.1) = (one.2, rest.3) in
    let same : all ≡ first ∷ rest.0 = rest.2 ∙ ap (λ xs. xs ++ rest.0) started in
    (array (items_of (one.0 ∷ rest.1)), after_value rest.1 one.1 rest.4, (one.0 ∷ rest.1, refl, rw same pairs)))
