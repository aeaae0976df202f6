use Rattle.city_writer.proofs.Prelude.{◌≡◌, ◌++◌, drop, list_all, is_i64_point}
use Rattle.city_writer.specs.internal.shape.InTurn.{VerticesReadBack, tokens_of_vertices}
use Rattle.city_writer.proofs.shape.vertices.write_each.Given as goal

-- the rest ends the list
abbrev pub invariant-loop-point : goal.invariant-loop-point
invariant-loop-point l =
    let left = drop l.point-index l.points in
    (l.out.before ≡ l.initial.out.before)
    × (l.initial.out.tokens ++ tokens_of_vertices l.points ≡ l.out.tokens ++ tokens_of_vertices left)
    × (VerticesReadBack left → VerticesReadBack l.points)
    × (list_all is_i64_point l.points ≡ list_all is_i64_point left)
