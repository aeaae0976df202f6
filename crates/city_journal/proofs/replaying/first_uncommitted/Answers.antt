use Rattle.std.proofs.Common.{rules}
use Rattle.city_journal.specs.Replays.{IsCommitted}
use Rattle.city_journal.proofs.Replays.{next_of_all}
use Rattle.city_journal.proofs.replaying.first_uncommitted.Goals as goal

pub loop-end-preserved : goal.loop-end-preserved
loop-end-preserved c =
    let l = c.loop-end in
    next_of_all IsCommitted c.args.ends.now l.end-index c.end-item.result c.loop-end-test.true c.end-item.is (search rules)
    l.invariant
