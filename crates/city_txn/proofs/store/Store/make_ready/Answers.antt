use Rattle.city_txn.proofs.Prelude.{◌∙◌, ◌<◌, length, arith, same_id, same_id_true, Touches, plans}
use Rattle.city_txn.proofs.PlanWritten.{planned, plans_more, may_reserve_next}
use Rattle.city_txn.proofs.Touched.{touches_on, touches_more}
use Rattle.city_txn.proofs.store.Store.make_ready.Goals.{After-make_ready_at}
use Rattle.city_txn.proofs.store.Store.make_ready.Goals as goal

pub make_ready_at-requires : goal.make_ready_at-requires
make_ready_at-requires c =
    let p = c.write-item.result in
    let lt : c.loop-write.write-index < length c.args.writes.now = omega arith in
    may_reserve_next c.args.self.now c.loop-write.self c.args.stamp (plans c.args.writes.now) p.0 c.requires
    c.loop-write.invariant.touches (planned c.args.writes.now c.loop-write.write-index p lt c.write-item.is)

touched : (c : After-make_ready_at)
    → Touches c.args.stamp (plans c.args.writes.now) c.args.self.now c.make_ready_at.new.self
touched c =
    let s = c.args.stamp in
    let ws = c.args.writes.now in
    let p = c.write-item.result in
    let lt : c.loop-write.write-index < length ws = omega arith in
    touches_on s (plans ws) c.args.self.now c.loop-write.self c.make_ready_at.new.self c.loop-write.invariant.touches
    (touches_more s (same_id p.0) (plans ws) c.loop-write.self c.make_ready_at.new.self
    (planned ws c.loop-write.write-index p lt c.write-item.is) c.make_ready_at.ensures.touches)

pub returns-in_err-make_ready_at-clause-touches : goal.returns-in_err-make_ready_at-clause-touches
returns-in_err-make_ready_at-clause-touches c =
    touched (goal.at.returns-in_err-make_ready_at-clause-touches c).After-make_ready_at

pub loop-write-preserved : goal.loop-write-preserved
loop-write-preserved c =
    let i = c.loop-write.invariant in
    let e = c.in_ok-make_ready_at.ensures in
    let index = c.loop-write.write-index in
    let p = c.write-item.result in
    let lt : index < length c.args.writes.now = omega arith in
    record {
      touches = touched (goal.at.loop-write-preserved c).After-make_ready_at;
      writes = λ q. e.writes q ∙ i.writes q;
      marks = e.marks ∙ i.marks;
      done = λ q h.
          let more = plans_more c.args.writes.now index p q lt c.write-item.is in
          let before = i.done q in let kept = e.more q in let at = same_id_true q p.0 in let ready = e.ok in
          grind arith;
    }
