use Rattle.city_writer.proofs.Prelude.{refl, ◌∙◌}
use Rattle.city_writer.proofs.tree.Appended.{appended}
use Rattle.city_writer.proofs.document.in_pieces.append_before_vertices.Goals as goal

pub returns-clause-before : goal.returns-clause-before
returns-clause-before c =
    let items = c.into_inner-bytes.ensures in
    let rest = c.in_ok-write_before_vertices.ensures in
    appended _ _ _ _ _ items.items items.reads_back items.utf8
    (c.begin_array.ensures.room.0 ∙ rest.before ∙ c.end_object.ensures.room.0 ∙ c.new-out.ensures.before)
    (rw (c.in_ok-begin_array.ensures.ok, rest.tokens, c.in_ok-end_object.ensures.ok, c.new-out.ensures.tokens) refl)
