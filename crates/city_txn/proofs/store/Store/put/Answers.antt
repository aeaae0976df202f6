use Rattle.city_txn.proofs.Prelude.{◌∙◌, ap, refl, arith, Some, State}
use Rattle.std.proofs.Common.{is_ok}
use Rattle.city_txn.specs.internal.State.{is_begun}
use Rattle.city_txn.proofs.AtOneId.{image}
use Rattle.city_txn.proofs.FirstWrites.{put_written}
use Rattle.city_txn.proofs.StoreChanged.{FirstWritten}
use Rattle.city_txn.proofs.store.Store.put.Goals.{After-put}
use Rattle.city_txn.proofs.store.Store.put.Goals as goal

done : (c : After-put) → FirstWritten c.args.self.now
    (record c.self.inside {
      city = c.put.new.city;
      transactions = c.put.new.self;
      may_have_orphan = c.has_orphan_then-self-inside.result;
    }) (is_ok c.put.result)
    c.args.stamp c.args.id (Some (c.args.stamp, c.args.object))
done c =
    put_written c.self.inside c.self.invariant c.self.view_is c.args.stamp c.args.id c.requires (is_ok c.put.result)
    c.put.new.city c.put.new.self c.args.object (image c.self.inside c.args.id) refl
    c.put.ensures.became c.put.ensures.listed c.put.ensures.reservations
    c.has_orphan_then-self-inside.result (λ h. let may = c.has_orphan_then-self-inside.ensures in grind arith)

pub put-requires-clause-opened : goal.put-requires-clause-opened
put-requires-clause-opened c = ap (λ (u : State). is_begun u c.args.stamp) c.self.view_is ∙ c.requires.opened

pub invariant_of-self : goal.invariant_of-self
invariant_of-self c = (done (goal.at.invariant_of-self c).After-put).in_place

pub returns : goal.returns
returns c =
    let at = done (goal.at.returns c).After-put in
    record { touches = at.touches; logs = at.logs; writes = at.writes }
