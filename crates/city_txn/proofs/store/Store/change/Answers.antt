use Rattle.city_txn.proofs.Prelude.{◌∙◌, length, ◌<◌, None, ap, arith, if◌then◌else◌, has_id, write_in, store_own}
use Rattle.std.proofs.Common.{take_all}
use Rattle.city_txn.proofs.ChangeMade.{noted_more, all_listed}
use Rattle.city_txn.proofs.store.Store.change.Goals as goal

pub loop-id-preserved : goal.loop-id-preserved
loop-id-preserved c =
    let lt : c.loop-id.id-index < length c.reserved-ids.result.now = omega arith in
    record {
      lists = noted_more (store_own c.args.self.now c.args.stamp) (write_in c.loop-id.change)
          (write_in c.add_written.new.change) c.reserved-ids.result.now c.loop-id.id-index c.id-item.result lt
          c.id-item.is c.loop-id.invariant.lists c.in_ok-add_written.ensures.added;
      ordered = c.add_written.ensures.ordered c.loop-id.invariant.ordered;
    }

pub returns-clause-lists : goal.returns-clause-lists
returns-clause-lists c q =
    let ids = c.reserved-ids.result.now in
    c.loop-id.invariant.lists q
    ∙ ap (λ xs. if has_id xs q then store_own c.args.self.now c.args.stamp q else None)
    (take_all c.loop-id.id-index ids (omega arith))
    ∙ all_listed c.self.inside c.self.invariant c.args.self.now c.self.view_is c.args.stamp ids c.reserved-ids.ensures q
