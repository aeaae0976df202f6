use Rattle.city_writer.proofs.Prelude.{refl}
use Rattle.city_writer.proofs.document.PutMembers.{on_ok}
use Rattle.city_writer.proofs.document.text.write_rest.Goals as goal

pub returns-clause-tokens : goal.returns-clause-tokens
returns-clause-tokens c =
    let before = c.in_ok-write_before_vertices.ensures in
    on_ok c.write_last.result c.write_last.ensures.tokens (λ e.
    rw (e, c.in_ok-write_vertices.ensures.tokens, before.tokens, before.left) refl)

pub returns-clause-left : goal.returns-clause-left
returns-clause-left c =
    on_ok c.write_last.result c.write_last.ensures.reads c.in_ok-write_before_vertices.ensures.left_reads
