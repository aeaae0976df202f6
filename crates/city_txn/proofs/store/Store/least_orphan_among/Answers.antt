use Rattle.city_txn.proofs.Prelude.{arith, ap, sym, ◌∙◌, ◌<◌, length, Some, true, false, is_orphan_there, store_view}
use Rattle.std.proofs.Common.{option_copied}
use Rattle.city_txn.proofs.ChangeMade.{one_lesser}
use Rattle.city_txn.proofs.store.Store.least_orphan_among.Goals.{then-is_orphan_at, else-is_orphan_at}
use Rattle.city_txn.proofs.store.Store.least_orphan_among.Goals as goal

pub loop-id-preserved : goal.loop-id-preserved
loop-id-preserved c =
    let lt : c.loop-id.id-index < length c.args.ids.now = omega arith in
    let next = one_lesser (λ id. is_orphan_there (store_view c.args.self.now c.args.stamp id)) c.args.ids.now
    c.loop-id.id-index c.id-item.result (option_copied c.loop-id.least) (option_copied c.if-is_orphan_at.least) in
    elim c.if-is_orphan_at.branch [
      | then-is_orphan_at w ↦ next true lt c.id-item.is (sym c.is_orphan_at.ensures ∙ w.if-is_orphan_at.true)
          (ap (λ o. option_copied o) w.least-is ∙ ap Some w.lesser.ensures) c.loop-id.invariant
      | else-is_orphan_at w ↦ next false lt c.id-item.is (sym c.is_orphan_at.ensures ∙ w.if-is_orphan_at.false)
          (ap (λ o. option_copied o) w.least-is) c.loop-id.invariant
    ]
