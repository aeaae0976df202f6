use Rattle.city_txn.proofs.Prelude.{arith, ◌≡◌, ◌∙◌, ap, sym, refl, None, State, write_of, write_at}
use Rattle.std.proofs.Common.{is_ok}
use Rattle.city_txn.proofs.AtOneId.{here, image, writes_is}
use Rattle.city_txn.proofs.StoreChanged.{FirstWritten, first_written, writes_left, marks_left}
use Rattle.city_txn.proofs.store.Store.reserve.Goals.{After-reserve}
use Rattle.city_txn.proofs.store.Store.reserve.Goals as goal

absent : (c : After-reserve) → image c.self.inside c.args.id.now ≡ None
absent c = grind arith

done : (c : After-reserve) → FirstWritten c.args.self.now
    (record c.self.inside { city = c.reserve.new.city; transactions = c.reserve.new.self }) (is_ok c.reserve.result)
    c.args.stamp c.args.id.now None
done c =
    first_written c.self.inside c.self.invariant c.self.view_is c.args.stamp c.args.id.now c.requires.opened
    (absent c) (is_ok c.reserve.result) c.reserve.new.city c.reserve.new.self c.reserve.ensures.became
    c.reserve.ensures.listed c.self.inside.may_have_orphan None (λ h. (h, refl)) refl refl (grind arith) refl

pub invariant_of-self : goal.invariant_of-self
invariant_of-self c = (done (goal.at.invariant_of-self c).After-reserve).in_place

pub returns : goal.returns
returns c =
    let at = (goal.at.returns c).After-reserve in
    let unwritten : write_of c.args.self.now.writes c.args.id.now ≡ None =
    ap (λ (v : State). write_of v.writes c.args.id.now) (sym c.self.view_is)
    ∙ writes_is c.self.inside c.self.invariant c.args.id.now ∙ ap (write_at (here c.self.inside c.args.id.now)) (absent
    at) in
    record {
      touches = (done at).touches;
      writes = writes_left (done at) unwritten;
      marks = marks_left (done at) unwritten;
      logs = (done at).logs;
      more = (done at).more;
    }
