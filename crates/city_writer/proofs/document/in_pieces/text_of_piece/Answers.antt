use Rattle.city_writer.proofs.Prelude.{◌∙◌}
use Rattle.city_writer.proofs.document.PiecesWritten.{piece_written}
use Rattle.city_writer.proofs.document.in_pieces.text_of_piece.Goals as goal

pub returns : goal.returns
returns c =
    let done = c.in_ok-write_first.ensures in
    let items = c.into_inner-text.ensures in
    piece_written _ _ _ _ _ _ _ _ c.known-known.ensures done.pool
    (done.before ∙ c.new-out.ensures.before ∙ c.new.ensures.items)
    c.new-out.ensures.tokens done.tokens done.reads done.kept items.items items.reads_back items.utf8
