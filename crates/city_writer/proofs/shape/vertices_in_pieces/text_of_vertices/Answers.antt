use Rattle.city_writer.proofs.Prelude.{◌∙◌}
use Rattle.city_writer.proofs.shape.VerticesInTurn.{vertices_written}
use Rattle.city_writer.proofs.shape.vertices_in_pieces.text_of_vertices.Goals as goal

pub returns : goal.returns
returns c =
    let done = c.in_ok-write_each.ensures in
    let items = c.into_inner-text.ensures in
    vertices_written _ _ _ _ _ (done.before ∙ c.new-out.ensures.before ∙ c.new.ensures.items) c.new-out.ensures.tokens
    done.tokens done.reads done.in_range items.items items.reads_back items.utf8
