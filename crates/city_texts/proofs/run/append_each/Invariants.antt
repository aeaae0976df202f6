use Rattle.city_texts.proofs.Prelude.{◌≡◌, ◌++◌, into_iter_items}
use Rattle.std.specs.Prelude.{flat_map}
use Rattle.std.specs.Vec.{vec_items}
use Rattle.city_texts.proofs.run.append_each.Given as goal

abbrev pub invariant-pieces : goal.invariant-pieces
invariant-pieces g l =
    l.parts.items ++ flat_map vec_items (into_iter_items l.piece-iterator)
    ≡ l.initial.parts.items ++ flat_map vec_items l.fn.pieces.items
