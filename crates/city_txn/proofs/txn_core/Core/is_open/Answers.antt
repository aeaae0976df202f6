use Rattle.city_txn.proofs.Prelude.{◌∙◌, arith, sym, ap, subst, CoreState, is_open, IsConsistent}
use Rattle.city_txn.specs.internal.Prelude.{write_of}
use Rattle.city_txn.proofs.CoreFields.{open_is, sound_view, sound_seen, open_only}
use Rattle.city_txn.proofs.SeenWrites.{by_own}
use Rattle.city_txn.proofs.txn_core.Core.is_open.Goals as goal

pub returns : goal.returns
returns c =
    let v = c.args.self.now in
    let state : IsConsistent v = subst IsConsistent c.self.view_is c.self.invariant.state in
    record {
      opened = c.is_open.ensures.opened ∙ sym (open_is c.self.inside c.args.stamp)
          ∙ ap (λ (v : CoreState). is_open v c.args.stamp) c.self.view_is;
      committed = state.city;
      views = λ t. sound_view v t state;
      marks = λ t. (sound_seen v t state).1;
      locked = λ t id h. (state.each t).covered.own id (sym (by_own t (write_of v.writes id)) ∙ h);
      marks_locked = λ t id h.
          let noted = c.is_open.ensures.noted t id in
          let reserved = c.self.invariant.reserved t id in
          let known = c.self.view_is in
          grind arith;
      open_only = open_only v state;
    }
