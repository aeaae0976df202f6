use Rattle.city_writer.proofs.Prelude.{refl, ◌∙◌}
use Rattle.city_writer.proofs.tree.Appended.{appended}
use Rattle.city_writer.proofs.document.in_pieces.append_behind_vertices.Goals as goal

pub returns-clause-behind : goal.returns-clause-behind
returns-clause-behind c =
    let items = c.into_inner-bytes.ensures in
    let last = c.in_ok-write_last.ensures in
    appended _ _ _ _ _ items.items items.reads_back items.utf8
    (last.before ∙ c.end_array.ensures.room.0 ∙ c.new-out.ensures.before)
    (rw (last.tokens, c.in_ok-end_array.ensures.ok, c.new-out.ensures.tokens) refl)
