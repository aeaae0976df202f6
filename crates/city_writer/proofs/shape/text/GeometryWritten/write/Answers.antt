use Rattle.city_writer.proofs.Prelude.{with_points}
use Rattle.city_writer.proofs.tree.Among.{string_reads}
use Rattle.city_writer.proofs.document.PutMembers.{put_written, put_reads, geometry_put, on_ok}
use Rattle.city_writer.proofs.shape.text.GeometryWritten.write.Goals as goal

pub returns-clause-tokens : goal.returns-clause-tokens
returns-clause-tokens c =
    let kept = c.map-members.ensures in
    let first = c.in_ok-write_name.ensures in
    let second = c.in_ok-write_name-2.ensures in
    let third = c.in_ok-write_name-3.ensures in
    on_ok c.write_last.result c.write_last.ensures.tokens (λ e later.
    let pool = with_points c.write.new.pool later in
    rw (e, c.in_ok-string-2.ensures.ok, c.shape_name.ensures, third.tokens, third.left)
    (rw (c.in_ok-string.ensures.ok, c.as_str.ensures, second.tokens, second.left)
    (rw (c.in_ok-write.ensures.tokens later, first.tokens, first.left)
    (rw (c.in_ok-begin_object.ensures.ok, c.new-kept.ensures)
    (put_written 0 _ (geometry_put pool c.args.self.now _ kept.members kept.ordered kept.kept))))))

pub returns-clause-reads : goal.returns-clause-reads
returns-clause-reads c =
    let kept = c.map-members.ensures in
    on_ok c.write_last.result c.write_last.ensures.reads (λ e pool small.
    let last = c.in_ok-write_name-3.ensures.reads e in
    let left = c.in_ok-write_name.ensures.reads (c.in_ok-write_name-2.ensures.reads last) in
    put_reads (geometry_put pool c.args.self.now _ kept.members kept.ordered kept.kept) (rw c.new-kept.ensures at left)
    (c.in_ok-write.ensures.reads pool small, (string_reads _, (string_reads _, tt))))
