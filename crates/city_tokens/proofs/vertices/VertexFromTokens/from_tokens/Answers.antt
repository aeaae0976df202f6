use Rattle.city_tokens.proofs.Prelude.{◌≡◌, ◌-◌, w64, refl, ap, arith, rules, to_z, of_z, token_of}
use Rattle.city_tokens.proofs.Reading.{seen_token, three_value, point_read}
use Rattle.city_tokens.proofs.vertices.VertexFromTokens.from_tokens.Goals as goal

pub returns : goal.returns
returns c =
    let k = c.args.depth - 1 in
    let x = c.in_ok-x in
    let y = c.in_ok-y in
    let z = c.in_ok-z in
    let same_x : to_z w64 (of_z w64 x.x) ≡ x.x = search rules in
    let same_y : to_z w64 (of_z w64 y.y) ≡ y.y = search rules in
    let same_z : to_z w64 (of_z w64 z.z) ≡ z.z = search rules in
    let three = three_value c.args.depth (omega arith) (x.ensures.value k) (y.ensures.value k) (z.ensures.value k)
    (grind arith) in
    let seen = seen_token c.in_ok-next.ensures (ap token_of c.in-BeginArray.is) refl three in
    let point = point_read x.x y.y z.z x.ensures.in_range y.ensures.in_range z.ensures.in_range in
    (_, seen, rw (same_x, same_y, same_z) point)
