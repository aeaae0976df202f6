use Rattle.city_writer.proofs.Prelude.{sym, ◌∙◌, drop_all}
use Rattle.city_writer.proofs.pool.Walks.{walk_item}
use Rattle.city_writer.proofs.shape.text.SequenceWritten.add_points.Goals as goal

pub loop-item-preserved : goal.loop-item-preserved
loop-item-preserved g c =
    let l = c.loop-item in
    l.invariant ∙ walk_item g.T.Written.points c.as_slice-items.result.now l.item-index c.item-item.result l.pool _
    c.loop-item-test.true c.item-item.is c.in_ok-add_points.ensures

pub returns : goal.returns
returns g c =
    let l = c.loop-item in
    let none = drop_all l.item-index c.as_slice-items.result.now c.loop-item-test.false in
    sym (rw (none, c.as_slice-items.ensures) at l.invariant)
