use Rattle.city_writer.proofs.Prelude.{◌≡◌, ◌++◌, drop, filter, is_new}
use Rattle.city_writer.specs.internal.Pieces.{joined}
use Rattle.city_writer.proofs.document.points_in_pieces.new_among.Given as goal

-- the rest ends the list
abbrev pub invariant-loop-point : goal.invariant-loop-point
invariant-loop-point l =
    filter (is_new (joined l.before (λ ps. ps))) l.points
    ≡ l.new.items ++ filter (is_new (joined l.before (λ ps. ps))) (drop l.point-index l.points)
