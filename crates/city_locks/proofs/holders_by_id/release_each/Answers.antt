use Rattle.city_locks.proofs.Prelude.{arith}
use Rattle.city_locks.proofs.Tables.{release_more}
use Rattle.city_locks.proofs.holders_by_id.release_each.Goals as goal

pub loop-id-preserved : goal.loop-id-preserved
loop-id-preserved c =
    release_more c.args.held.now.entries c.loop-id.held.entries c.release.new.held.entries c.args.stamp c.args.ids.now
    c.loop-id.id-index c.id-item.result
    (omega arith) c.id-item.is c.loop-id.invariant c.release.ensures
