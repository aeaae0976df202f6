use Rattle.city_writer.proofs.Prelude.{◌≡◌, drop, list_any, same_point}
use Rattle.city_writer.specs.internal.Pieces.{joined}
use Rattle.city_writer.proofs.document.points_in_pieces.place_in.Given as goal

-- the pieces passed don't have it
abbrev pub invariant-loop-points : goal.invariant-loop-points
invariant-loop-points l =
    list_any (same_point l.point) (joined l.pieces (λ ps. ps))
    ≡ list_any (same_point l.point) (joined (drop l.points-index l.pieces) (λ ps. ps))
