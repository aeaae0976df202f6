use Rattle.city_writer.proofs.Prelude.{refl, ◌∙◌}
use Rattle.city_writer.proofs.tree.Appended.{appended}
use Rattle.city_writer.proofs.document.in_pieces.append_head.Goals as goal

pub returns-clause-head : goal.returns-clause-head
returns-clause-head c =
    let items = c.into_inner-bytes.ensures in
    let named = c.in_ok-write_name.ensures in
    appended _ _ _ _ _ items.items items.reads_back items.utf8
    (c.begin_object-2.ensures.room.0 ∙ named.before ∙ c.begin_object.ensures.room.0 ∙ c.new-out.ensures.before)
    (rw (c.in_ok-begin_object-2.ensures.ok, named.tokens, c.in_ok-begin_object.ensures.ok, c.new-out.ensures.tokens) refl)
