use Rattle.city_writer.proofs.Prelude.{refl, sym, ◌∙◌, append_assoc, drop_all}
use Rattle.city_writer.proofs.document.PutMembers.{on_ok}
use Rattle.city_writer.proofs.tree.ReadBack.{array_reads}
use Rattle.city_writer.proofs.pool.Walks.{walk_first}
use Rattle.city_writer.proofs.tree.WrittenItems.{item_first, numbered_written}
use Rattle.city_writer.proofs.shape.text.SequenceWritten.write.Goals as goal

pub loop-item-preserved : goal.loop-item-preserved
loop-item-preserved g c =
    let l = c.loop-item in
    let xs = c.as_slice-items.result.now in
    let x = c.item-item.result in
    let was = rw (item_first xs l.item-index x c.loop-item-test.true c.item-item.is) at l.invariant in
    let one = c.in_ok-write.ensures in (
      was.0 ∙ walk_first g.T.Written.points x _ _ _ one.pool,
      one.before ∙ was.1,
      numbered_written g.T.Written.points g.T.Written.written xs l.item-index x l.pool c.write.new.pool
          c.begin_array.new.self.tokens l.out.tokens c.write.new.out.tokens c.loop-item-test.true c.item-item.is
          one.pool l.invariant.2 one.tokens,
      λ pool small rest. was.3 pool small (one.reads pool small, rest),
      was.4 ∙ rw one.kept refl,
    )

pub returns : goal.returns
returns g c =
    let l = c.loop-item in
    let none = drop_all l.item-index c.as_slice-items.result.now c.loop-item-test.false in
    let was = rw (none, c.as_slice-items.ensures) at l.invariant in
    let ok = c.end_array.ensures.ok in
    record {
      pool = on_ok c.end_array.result ok (λ e. sym was.0);
      before = on_ok c.end_array.result ok (λ e. c.end_array.ensures.room.0 ∙ was.1 ∙ c.begin_array.ensures.room.0);
      tokens = on_ok c.end_array.result ok
          (λ e later. e ∙ sym (was.2 later) ∙ rw (c.in_ok-begin_array.ensures.ok, append_assoc) refl);
      reads = on_ok c.end_array.result ok (λ e pool small. array_reads _ (was.3 pool small tt));
      kept = on_ok c.end_array.result ok (λ e. was.4);
    }
