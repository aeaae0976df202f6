use Rattle.city_locks.proofs.Once.{wait_die_seen}
use Rattle.city_locks.proofs.lock_table.LockTable.would_answer.Goals as goal

pub returns-clause-wait_die : goal.returns-clause-wait_die
returns-clause-wait_die c =
    wait_die_seen c.self.view_is (c.self.invariant.once c.args.id.now) c.answer_at.ensures
