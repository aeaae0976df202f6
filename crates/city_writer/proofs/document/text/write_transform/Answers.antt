use Rattle.city_writer.proofs.document.PutMembers.{put_written, put_reads, transform_put, on_ok}
use Rattle.city_writer.proofs.document.text.write_transform.Goals as goal

pub returns-clause-tokens : goal.returns-clause-tokens
returns-clause-tokens c =
    let kept = c.map-members.ensures in
    let first = c.in_ok-write_name.ensures in
    let second = c.in_ok-write_name-2.ensures in
    on_ok c.write_last.result c.write_last.ensures.tokens (λ e.
    rw (e, c.in_ok-write_triple-2.ensures.tokens, second.tokens, second.left, c.in_ok-write_triple.ensures.tokens)
    (rw (first.tokens, first.left, c.in_ok-begin_object.ensures.ok, c.new-kept.ensures)
    (put_written 0 _ (transform_put c.args.frame.now _ kept.members kept.ordered kept.kept))))

pub returns-clause-reads : goal.returns-clause-reads
returns-clause-reads c =
    let kept = c.map-members.ensures in
    on_ok c.write_last.result c.write_last.ensures.reads (λ e.
    let left = c.in_ok-write_name.ensures.reads (c.in_ok-write_name-2.ensures.reads e) in
    put_reads (transform_put c.args.frame.now _ kept.members kept.ordered kept.kept) (rw c.new-kept.ensures at left)
    (c.in_ok-write_triple.ensures.reads, (c.in_ok-write_triple-2.ensures.reads, tt)))
