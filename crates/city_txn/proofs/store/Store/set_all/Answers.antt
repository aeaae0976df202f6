use Rattle.city_txn.proofs.Prelude.{◌≡◌, ◌∙◌, ◌∷◌, ◌++◌, [], ap, sym, write_in, write_of, written_with}
use Rattle.city_txn.proofs.PlanWritten.{plans_this, plans_before, written_last}
use Rattle.city_txn.proofs.Touched.{reserved_by, changes_on}
use Rattle.city_txn.proofs.store.Store.set_all.Goals as goal

pub set-requires : goal.set-requires
set-requires c =
    c.loop-write.invariant.reserved c.in-Some.write.0
    (plans_this c.loop-write.writes.items c.pop.new.self.items c.in-Some.write c.in-Some.ensures.items)

pub loop-write-preserved : goal.loop-write-preserved
loop-write-preserved c =
    let i = c.loop-write.invariant in
    let x = c.set.ensures in
    let s = c.args.stamp in
    let all = c.loop-write.writes.items in
    let left = c.pop.new.self.items in
    let w = c.in-Some.write in
    let e : all ≡ left ++ w ∷ [] = c.in-Some.ensures.items in
    record {
      only = changes_on c.args.self.now c.loop-write.self c.set.new.self i.only x.one.only;
      others = λ q. x.others q ∙ i.others q;
      reserved = λ q h. reserved_by c.loop-write.self c.set.new.self s q x.one.only.opened
          ∙ i.reserved q (plans_before all left w q e h);
      writes = λ q.
          let last = written_last left w s q _ _ (x.one.writes q) in
          last ∙ ap (λ ws. written_with s (write_in ws q) (write_of c.loop-write.self.writes q)) (sym e) ∙ i.writes q;
    }
