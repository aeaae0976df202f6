use Rattle.city_writer.proofs.Prelude.{◌≡◌, true, [], sym, ap, ◌∙◌, subst, is_some, list_all, same_point, city_points}
use Rattle.city_writer.proofs.Prelude.{new_points}
use Rattle.std.specs.List.{IsDistinct}
use Rattle.city_writer.specs.internal.Pieces.{joined}
use Rattle.city_writer.proofs.document.CityInPieces.{numbered_points}
use Rattle.city_writer.proofs.pool.NewPoints.{each_once}
use Rattle.city_writer.proofs.document.points_in_pieces.NumberedPoints.of.Goals as goal

pub returns : goal.returns
returns g c =
    let city = c.args.city.now in
    let seen = c.as_slice.ensures.value in
    let news = c.as_slice-2.ensures.value in
    let all = c.in_ok-all.ensures in
    let new = c.in_ok-new.ensures (subst (λ os. list_all is_some os ≡ true) news all.all) in
    let pooled = all.points ∙ ap (λ os. joined os (λ new. new.points.items)) news ∙ new.1 ∙ ap (new_points []) seen
    ∙ numbered_points c.args.len city c.in_ok-pieces.pieces.items
    (subst (λ os. list_all is_some os ≡ true) seen new.0) c.in_ok-pieces.ensures in
    record {
      points = pooled;
      distinct = subst (IsDistinct same_point) (sym pooled) (each_once (city_points city));
    }
