use Rattle.city_txn.proofs.Prelude.{◌≡◌, ◌∙◌, ap, rules, subst, Change, write_in, store_own, written_with, Touches}
use Rattle.city_txn.proofs.Prelude.{write_of, log_of, marked, is_noted, plans}
use Rattle.city_txn.specs.UndoLog.{Written}
use Rattle.city_txn.proofs.PlanWritten.{unnoted_stays}
use Rattle.city_txn.proofs.Touched.{touches_on, touches_writes}
use Rattle.city_txn.proofs.UndoLogs.{marked_same}
use Rattle.city_txn.proofs.store.Store.write_each.Goals.{After-make_ready}
use Rattle.city_txn.proofs.store.Store.write_each.Goals as goal

ready : (c : After-make_ready) → Touches c.args.stamp (plans c.args.writes) c.args.self.now c.make_ready.new.self
ready c =
    let listed : c.as_slice.result.now ≡ c.args.writes = search rules in
    subst (λ (ws : Change). Touches c.args.stamp (plans ws) c.args.self.now c.make_ready.new.self) listed
    c.make_ready.ensures.touches

pub returns-in_err-make_ready-clause-touches : goal.returns-in_err-make_ready-clause-touches
returns-in_err-make_ready-clause-touches c = ready (goal.at.returns-in_err-make_ready-clause-touches c).After-make_ready

pub returns-clause-touches : goal.returns-clause-touches
returns-clause-touches c =
    touches_on c.args.stamp (plans c.args.writes) c.args.self.now c.make_ready.new.self c.set_all.new.self
    (ready (goal.at.returns-clause-touches c).After-make_ready)
    (touches_writes c.args.stamp (plans c.args.writes) c.make_ready.new.self c.set_all.new.self c.set_all.ensures.only
    c.set_all.ensures.others)

-- an id not noted isn't written
pub returns-clause-marks : goal.returns-clause-marks
returns-clause-marks c =
    let s = c.args.stamp in
    let u = c.make_ready.new.self in
    let w = c.set_all.new.self in
    let ws = c.into_vec.result.items in
    let listed : c.as_slice.result.now ≡ ws = search rules in
    ap (λ ls. marked (log_of ls s) (store_own w s)) c.set_all.ensures.only.logs
    ∙ marked_same (log_of u.logs s) (store_own w s) (store_own u s)
    (λ q e. unnoted_stays ws s q (is_noted (log_of u.logs s) q) _ _
    (λ h. (c.in_ok-make_ready.ensures.ok q (ap (λ (xs : Change). plans xs q) listed ∙ h)).1) e
    (c.set_all.ensures.writes q))
    ∙ ap (λ (x : Written). x.1) c.make_ready.ensures.marks

pub returns-clause-writes : goal.returns-clause-writes
returns-clause-writes c q =
    c.set_all.ensures.writes q
    ∙ (λ i. written_with c.args.stamp (write_in (c.into_vec.ensures i) q) (c.make_ready.ensures.writes q i))
