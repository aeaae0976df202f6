use Rattle.city_txn.proofs.Prelude.{length, ◌<◌, ◌∙◌, arith, refl, left_at_end}
use Rattle.city_txn.proofs.StoreChanged.{one_more_ended}
use Rattle.city_txn.proofs.transactions.Transactions.end_each.Goals as goal

pub end-requires : goal.end-requires
end-requires c h =
    let id = c.id-item.result in
    let object = c.loop-id.invariant.became.object_is id in
    let image = c.loop-id.invariant.became.image_is id in
    let room = c.requires id in
    grind arith

pub loop-id-preserved : goal.loop-id-preserved
loop-id-preserved c =
    let lt : c.loop-id.id-index < length c.args.ids.now = omega arith in
    record {
      became = one_more_ended (left_at_end c.args.end) (λ x. refl) c.args.ids.now c.loop-id.id-index c.id-item.result
          lt c.id-item.is
          c.loop-id.invariant.became c.end.ensures.became;
      reservations = c.end.ensures.reservations ∙ c.loop-id.invariant.reservations;
    }
