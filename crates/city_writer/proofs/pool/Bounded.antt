-- Points outside a box around others aren't among them.
use Rattle.city_writer.proofs.Prelude.{◌≡◌, true, false, List, [], ◌∷◌, refl, arith, list_all, list_any, Point}
use Rattle.city_writer.proofs.Prelude.{same_point}
use Rattle.city_writer.specs.declared.piece_points.Bounds.{Bounds}
use Rattle.city_writer.specs.internal.PiecePoints.{is_within}
use Rattle.city_writer.proofs.pool.NumberedPoints.{same_point-is}

pub outside : (b : Bounds) (p : Point) (ps : List Point) → list_all (is_within b) ps ≡ true → is_within b p ≡ false
    → list_any (same_point p) ps ≡ false
outside b p [] all out = refl
outside b p (q ∷ ps) all out =
    let rest = outside b p ps in
    let same = same_point-is p q in
    grind arith
