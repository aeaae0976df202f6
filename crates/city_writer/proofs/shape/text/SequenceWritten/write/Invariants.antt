use Rattle.city_writer.proofs.Prelude.{◌≡◌, ◌<◌, List, ◌++◌, drop, length, flat_map, list_all, Point, with_points}
use Rattle.std.proofs.Common.{◌^◌}
use Rattle.city_writer.proofs.tree.WrittenItems.{closing, ReadBack}
use Rattle.city_writer.proofs.shape.text.SequenceWritten.write.Given as goal

-- the rest leads to the pool of all, and ends the array
abbrev pub invariant-loop-item : goal.invariant-loop-item
invariant-loop-item g l =
    let left = drop l.item-index l.items in
    (with_points l.initial.pool (flat_map g.T.Written.points l.items) ≡ with_points l.pool
    (flat_map g.T.Written.points left))
    × (l.out.before ≡ l.initial.out.before)
    × ((later : List Point)
    → l.initial.out.tokens ++ closing (g.T.Written.written (with_points l.pool later)) l.items
    ≡ l.out.tokens ++ closing (g.T.Written.written (with_points l.pool later)) left)
    × ((pool : List Point) → length pool < 2 ^ 63 → ReadBack (g.T.Written.written pool) left
    → ReadBack (g.T.Written.written pool) l.items)
    × (list_all g.T.Written.is_kept l.items ≡ list_all g.T.Written.is_kept left)
