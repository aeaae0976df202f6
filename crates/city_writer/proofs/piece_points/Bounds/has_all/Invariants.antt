use Rattle.city_writer.proofs.Prelude.{◌≡◌, drop, list_all}
use Rattle.city_writer.specs.internal.PiecePoints.{is_within}
use Rattle.city_writer.proofs.piece_points.Bounds.has_all.Given as goal

-- the points passed are in the box
abbrev pub invariant-loop-point : goal.invariant-loop-point
invariant-loop-point l =
    list_all (is_within l.self) l.points ≡ list_all (is_within l.self) (drop l.point-index l.points)
