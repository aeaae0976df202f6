use Rattle.city_tokens.proofs.Prelude.{◌≡◌, Some, w64, sym, ap, ◌∙◌, rules, to_z, of_z, number, of_integer}
use Rattle.city_tokens.proofs.position.PointFromTokens.from_tokens.Goals as goal

pub returns : goal.returns
returns c =
    let x = c.in_ok-x in
    let same : to_z w64 (of_z w64 x.x) ≡ x.x = search rules in
    (number (of_integer x.x), x.ensures.value c.args._depth, x.ensures.in_range ∙ ap Some (sym same))
