use Rattle.city_txn.proofs.Prelude.{arith, true, ◌≡◌, ◌∙◌, ◌∷◌, ap, sym, same_id_true, same_id_itself, BeforeImage}
use Rattle.city_txn.proofs.Prelude.{state_of, State, store_own, store_written, is_reserved, log_of, marked}
use Rattle.city_txn.proofs.UndoLogs.{noted_marked}
use Rattle.city_txn.proofs.store.Store.note.Goals as goal

pub invariant_of-self-2 : goal.invariant_of-self-2
invariant_of-self-2 c =
    let k = c.self.invariant in
    let key = c.in_ok-key.ensures in
    let id = c.args.id.now in
    let mine : is_reserved (state_of c.self.inside) c.args.stamp id ≡ true =
    ap (λ (v : State). is_reserved v c.args.stamp id) c.self.view_is ∙ c.requires in
    record {
      ordered = k.ordered;
      has_room = k.has_room;
      listed = k.listed;
      noted = λ t q h.
          let e = c.in_ok-push.ensures.ok t in let was = k.noted t q in let at = same_id_true id q in grind arith;
      plain = k.plain;
    }

pub returns-clause-marks : goal.returns-clause-marks
returns-clause-marks c =
    let s = c.args.stamp in
    let v = state_of c.self.inside in
    let before = BeforeImage c.in_ok-key.key c.in_ok-write.write in
    let log : log_of c.push.new.self s ≡ before ∷ log_of v.logs s = let e = c.in_ok-push.ensures.ok s in grind arith in
    let is : c.in_ok-write.write ≡ store_own v s c.in_ok-key.key = c.in_ok-write.ensures
    ∙ (λ i. store_own (sym c.self.view_is i) s (sym c.in_ok-key.ensures i)) in
    ap (λ ms. (store_own v s, ms)) (ap (λ l. marked l (store_own v s)) log
    ∙ noted_marked (log_of v.logs s) (store_own v s) c.in_ok-key.key c.in_ok-write.write is)
    ∙ ap (λ (u : State). store_written u s) c.self.view_is

pub returns-clause-ok : goal.returns-clause-ok
returns-clause-ok c =
    let e = c.in_ok-push.ensures.ok c.args.stamp in let key = c.in_ok-key.ensures in grind (arith, same_id_itself)
