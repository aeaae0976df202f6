use Rattle.city_writer.proofs.Prelude.{◌≡◌, ◌++◌, drop, is_some, list_all}
use Rattle.city_writer.specs.internal.Pieces.{joined}
use Rattle.city_writer.proofs.document.points_in_pieces.all_new.Given as goal

-- the rest ends the list
abbrev pub invariant-loop-piece : goal.invariant-loop-piece
invariant-loop-piece l =
    (joined l.pieces (λ new. new.points.items) ≡ l.all.items ++ joined (drop l.piece-index l.pieces)
    (λ new. new.points.items)) × (list_all is_some l.pieces ≡ list_all is_some (drop l.piece-index l.pieces))
