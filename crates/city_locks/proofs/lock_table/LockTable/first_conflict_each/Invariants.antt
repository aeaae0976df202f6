use Rattle.city_locks.proofs.Prelude.{◌≡◌, ids_left, exclusively, first_ungranted}
use Rattle.city_locks.proofs.lock_table.LockTable.first_conflict_each.Given as goal

abbrev pub invariant-loop-id : goal.invariant-loop-id
invariant-loop-id l =
    first_ungranted l.self l.stamp (exclusively (ids_left l.fn.ids))
    ≡ first_ungranted l.self l.stamp (exclusively (ids_left l.id-iterator))
