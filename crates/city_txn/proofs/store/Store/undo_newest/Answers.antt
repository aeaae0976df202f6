use Rattle.city_txn.proofs.Prelude.{false, subst, state_of, State, Touches}
use Rattle.city_txn.proofs.Touched.{touches_on, touches_writes, undone_noted, undone_touches}
use Rattle.city_txn.proofs.store.Store.undo_newest.Goals as goal

pub restore-requires : goal.restore-requires
restore-requires c =
    let at = c.in-Some-BeforeImage in
    c.self.invariant.noted c.args.stamp at.id
    (undone_noted c.args.stamp (state_of c.self.inside) c.pop.new.self at.field-0 at.id at.write at.field-0-is
    at.ensures.entries)

pub returns-in-Some-BeforeImage-clause-touches : goal.returns-in-Some-BeforeImage-clause-touches
returns-in-Some-BeforeImage-clause-touches c =
    let s = c.args.stamp in
    let v = state_of c.self.inside in
    let u : State = record v { logs = c.pop.new.self } in
    let at = c.in-Some-BeforeImage in
    subst (λ (x : State). Touches s (λ id. false) x c.restore.new.self) c.self.view_is
    (touches_on s (λ id. false) v u c.restore.new.self
    (undone_touches s v c.pop.new.self at.field-0 at.id at.write at.field-0-is at.ensures.entries)
    (touches_writes s (λ id. false) u c.restore.new.self c.restore.ensures.one.only c.restore.ensures.others))
