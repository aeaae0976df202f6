use Rattle.city_writer.proofs.Prelude.{◌≡◌, ℕ, ◌+◌, ◌<◌, arith, length, get_or, refl, subst}
use Rattle.std.proofs.Common.{◌/◌, ◌%◌, min, IfSome}
use Rattle.city_writer.specs.internal.shape.InTurn.{AreVertices}
use Rattle.city_writer.proofs.EachPiece.{each_made}
use Rattle.city_writer.proofs.shape.vertices_in_pieces.texts_of_vertices.Goals as goal

pub returns : goal.returns
returns g c =
    let points = c.args.points.now in
    let made = c.in_ok-texts.ensures in
    let all = c.in_ok-texts.texts in
    let count : ℕ = length points / c.args.len + min 1 (length points % c.args.len) in
    let whole : length all.items ≡ count = omega (arith, made.len, all.ok.0) in
    each_made (λ ps text. AreVertices ps text.items) c.args.len (length points) count points all.items c.requires refl
    refl whole (λ i d less.
    let below : i < length all.items = omega (arith, whole, less) in
    let one = (made.each i d below).1 in
    subst (λ ps. IfSome (get_or all.items i d) (λ text. AreVertices ps text.items)) one.argument_is.value one.call)
