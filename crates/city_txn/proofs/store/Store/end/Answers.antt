use Rattle.city_txn.proofs.Prelude.{◌∙◌, ap, arith}
use Rattle.city_txn.proofs.StoreChanged.{Ending, ending, alone_listed}
use Rattle.city_txn.proofs.store.Store.end.Goals.{After-has_orphan_still-self-inside}
use Rattle.city_txn.proofs.store.Store.end.Goals as goal

done : (c : After-has_orphan_still-self-inside) → Ending c.args.stamp c.args.end c.args.self.now
    (record c.self.inside {
      city = c.end_at.new.city;
      transactions = c.end_at.new.self;
      logs = c.close.new.self;
      may_have_orphan = c.has_orphan_still-self-inside.result;
    })
done c =
    ending c.self.inside c.self.invariant c.self.view_is c.args.stamp c.args.end c.end_at.new.city c.end_at.new.self
    c.close.new.self c.as_slice.result.now (c.as_slice.ensures ∙ c.close-ids.ensures.ids)
    (rw c.close-ids.ensures.images at c.end_at.ensures.became)
    (rw c.end_at.ensures.reservations c.close-ids.ensures.closed) c.close.ensures
    c.has_orphan_still-self-inside.result
    (λ h. let may = c.has_orphan_still-self-inside.ensures in let idle = c.is_idle-alone.ensures in
    let same = ap (λ u. u.entries) c.end_at.ensures.reservations in grind arith)

pub end_at-requires-clause-alone : goal.end_at-requires-clause-alone
end_at-requires-clause-alone c alone q some =
    alone_listed c.self.inside c.self.invariant c.args.stamp c.as_slice.result.now
    (c.as_slice.ensures ∙ c.close-ids.ensures.ids) c.close-ids.ensures.closed (c.is_idle-alone.ensures.0 alone) q
    (rw c.close-ids.ensures.images at some)

pub invariant_of-self : goal.invariant_of-self
invariant_of-self c = (done (goal.at.invariant_of-self c).After-has_orphan_still-self-inside).in_place

pub returns : goal.returns
returns c = let at = done (goal.at.returns c).After-has_orphan_still-self-inside in
    record { city = at.city; forgets = at.forgets }
