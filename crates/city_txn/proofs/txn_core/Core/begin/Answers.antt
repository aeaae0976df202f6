use Rattle.city_txn.proofs.Prelude.{◌∙◌, arith, ap, sym, is_some, rules, Kept}
use Rattle.city_txn.specs.internal.Prelude.{write_of}
use Rattle.city_txn.proofs.CoreFields.{Begun, begun, open_is}
use Rattle.city_txn.proofs.SeenWrites.{by_own}
use Rattle.city_txn.proofs.txn_core.Core.begin.Goals.{In-Ok}
use Rattle.city_txn.proofs.txn_core.Core.begin.Goals as goal

pub begin-requires : goal.begin-requires
begin-requires c = grind (arith, open_is)

done : (c : In-Ok) → Begun c.args.stamp c.args.self.now (record c.self.inside { store = c.begin.new.self })
done c =
    begun c.self.invariant _ _ c.in-Ok.ensures.begins c.self.view_is (sym c.is_open.ensures.opened ∙ c.if-is_open.false)

pub invariant_of-self-2 : goal.invariant_of-self-2
invariant_of-self-2 c = (done (goal.at.invariant_of-self-2 c).In-Ok).core

pub returns : goal.returns
returns c =
    let at = done (goal.at.returns c).In-Ok in
    record {
      city = search rules;
      writes = search rules;
      logs = search rules;
      locks = search rules;
      opened = ap (λ (k : Kept). k.opened) at.fresh;
      own = at.own;
      keeps = at.keeps;
      unlocked = λ q. ap (λ (k : Kept). k.held q) at.fresh;
      unwritten = λ q. by_own c.args.stamp (write_of c.begin.new.self.writes q)
          ∙ ap (λ (k : Kept). is_some (k.own q)) at.fresh;
      unmarked = ap (λ (k : Kept). k.log) at.fresh;
      err = tt;
      fault = tt;
      stamp_open = search rules;
    }
