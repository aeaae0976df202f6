use Rattle.city_writer.proofs.Prelude.{with_points}
use Rattle.city_writer.proofs.tree.Among.{string_reads}
use Rattle.city_writer.proofs.document.PutMembers.{put_written, put_reads, object_put, on_ok}
use Rattle.city_writer.proofs.object.text.write_object.Goals as goal

pub returns-clause-pool : goal.returns-clause-pool
returns-clause-pool c =
    on_ok c.write_last.result c.write_last.ensures.tokens
    (λ e. rw (c.get.ensures, c.get-body.ensures) at c.in_ok-write_list.ensures.pool)

pub returns-clause-tokens : goal.returns-clause-tokens
returns-clause-tokens c =
    let kept = c.lend-lent.ensures in
    let members = kept.members in
    let o = c.args.object.now in
    let children = c.in_ok-write_relatives.ensures in
    let lists = c.in_ok-write_list.ensures in
    let parents = c.in_ok-write_relatives-2.ensures in
    let named = c.in_ok-write_name.ensures in
    on_ok c.write_last.result c.write_last.ensures.tokens (λ e later.
    let pool = with_points c.write_list.new.pool later in
    rw (e, c.in_ok-string.ensures.ok, c.name.ensures, named.tokens, named.left)
    (rw (parents.tokens, parents.left, c.iter-2.ensures, lists.tokens later, lists.left, children.tokens, children.left)
    (rw (c.iter.ensures, c.in_ok-begin_object.ensures.ok, c.of_object-kept.ensures, c.get.ensures, c.get-body.ensures)
    (put_written 3 _ (object_put pool o _ _ c.get-body.ensures members kept.ordered kept.kept)))))

pub returns-clause-reads : goal.returns-clause-reads
returns-clause-reads c =
    let kept = c.lend-lent.ensures in
    let members = kept.members in
    let o = c.args.object.now in
    on_ok c.write_last.result c.write_last.ensures.reads (λ e pool small.
    let left = c.in_ok-write_relatives.ensures.passed (c.in_ok-write_list.ensures.passed
    (c.in_ok-write_relatives-2.ensures.passed (c.in_ok-write_name.ensures.reads e))) in
    let children = rw c.iter.ensures at c.in_ok-write_relatives.ensures.reads in
    let lists = rw (c.get.ensures, c.get-body.ensures) at c.in_ok-write_list.ensures.reads in
    let parents = rw c.iter-2.ensures at c.in_ok-write_relatives-2.ensures.reads in
    put_reads (object_put pool o _ _ c.get-body.ensures members kept.ordered kept.kept)
    (rw c.of_object-kept.ensures at left) (children, (lists pool small, (parents, (string_reads _, tt)))))
