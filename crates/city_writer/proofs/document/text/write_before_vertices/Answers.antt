use Rattle.city_writer.proofs.Prelude.{refl}
use Rattle.city_writer.proofs.document.PutMembers.{on_ok}
use Rattle.city_writer.proofs.document.text.write_before_vertices.Goals as goal

pub returns-clause-tokens : goal.returns-clause-tokens
returns-clause-tokens c =
    let frame = c.in_ok-write_name.ensures in
    let type = c.in_ok-write_name-2.ensures in
    let version = c.in_ok-write_name-3.ensures in
    on_ok c.write_name-4.result c.write_name-4.ensures.tokens (λ e.
    rw (e, version.left, c.in_ok-string-2.ensures.ok)
    (rw (version.tokens, type.left, c.in_ok-string.ensures.ok, type.tokens)
    (rw (c.in_ok-write_transform.ensures.tokens, frame.tokens, frame.left) refl)))

pub returns-clause-left : goal.returns-clause-left
returns-clause-left c =
    on_ok c.write_name-4.result c.write_name-4.ensures.left (λ e.
    rw (e, c.in_ok-write_name-3.ensures.left, c.in_ok-write_name-2.ensures.left, c.in_ok-write_name.ensures.left) refl)

pub returns-clause-left_reads : goal.returns-clause-left_reads
returns-clause-left_reads c =
    on_ok c.write_name-4.result c.write_name-4.ensures.reads (λ reads left.
    c.in_ok-write_name.ensures.reads (c.in_ok-write_name-2.ensures.reads (c.in_ok-write_name-3.ensures.reads
    (reads left))))
