use Rattle.city_writer.proofs.Prelude.{with_points}
use Rattle.city_writer.proofs.tree.Among.{string_reads}
use Rattle.city_writer.proofs.document.PutMembers.{put_written, put_reads, unrelated_put, on_ok}
use Rattle.city_writer.proofs.object.text.write_unrelated.Goals as goal

pub returns-clause-tokens : goal.returns-clause-tokens
returns-clause-tokens c =
    let kept = c.lend-lent.ensures in
    let members = kept.members in
    let lists = c.in_ok-write_list.ensures in
    let named = c.in_ok-write_name.ensures in
    on_ok c.write_last.result c.write_last.ensures.tokens (λ e later.
    let pool = with_points c.write_list.new.pool later in
    rw (e, c.in_ok-string.ensures.ok, c.name.ensures, named.tokens, named.left)
    (rw (lists.tokens later, lists.left, c.in_ok-begin_object.ensures.ok, c.of_object-kept.ensures, c.get.ensures)
    (put_written 1 _ (unrelated_put pool c.args.body.now _ members kept.ordered kept.kept))))

pub returns-clause-reads : goal.returns-clause-reads
returns-clause-reads c =
    let kept = c.lend-lent.ensures in
    let members = kept.members in
    on_ok c.write_last.result c.write_last.ensures.reads (λ e pool small.
    let left = c.in_ok-write_list.ensures.passed (c.in_ok-write_name.ensures.reads e) in
    let lists = rw c.get.ensures at c.in_ok-write_list.ensures.reads in
    put_reads (unrelated_put pool c.args.body.now _ members kept.ordered kept.kept)
    (rw c.of_object-kept.ensures at left) (lists pool small, (string_reads _, tt)))
