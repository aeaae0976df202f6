use Rattle.city_writer.proofs.Prelude.{[], arith}
use Rattle.city_writer.proofs.pool.NewPoints.{new_joined}
use Rattle.city_writer.proofs.document.points_in_pieces.new_points_of_pieces.Goals as goal

pub returns : goal.returns
returns g c all =
    let made = c.in_ok-all.ensures in
    let news = c.in_ok-all.all in
    new_joined (λ new. new.points.items) [] c.args.pieces.now news.items (omega (arith, made.len, news.ok.0)) all
    (λ i d less. (made.each i d (omega (arith, less, made.len, news.ok.0))).1.met)
