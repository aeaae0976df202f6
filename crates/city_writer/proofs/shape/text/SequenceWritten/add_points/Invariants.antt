use Rattle.city_writer.proofs.Prelude.{◌≡◌, drop, flat_map, with_points}
use Rattle.city_writer.proofs.shape.text.SequenceWritten.add_points.Given as goal

-- the rest leads to the pool of all
abbrev pub invariant-loop-item : goal.invariant-loop-item
invariant-loop-item g l =
    with_points l.initial.pool (flat_map g.T.Written.points l.items) ≡ with_points l.pool
    (flat_map g.T.Written.points (drop l.item-index l.items))
