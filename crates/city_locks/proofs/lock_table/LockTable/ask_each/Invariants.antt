use Rattle.city_locks.proofs.Prelude.{Result, ids_left, exclusively, Answer, Locks, Asked}
use Rattle.std.specs.declared.alloc.AllocError.{AllocError}
use Rattle.city_locks.proofs.lock_table.LockTable.ask_each.Given as goal

-- asking for the ids left is asking for all
abbrev pub invariant-loop-id : goal.invariant-loop-id
invariant-loop-id l = (r : Result Answer AllocError) (w : Locks)
    → Asked l.stamp (exclusively (ids_left l.id-iterator)) r l.self w
    → Asked l.stamp (exclusively (ids_left l.fn.ids)) r l.initial.self w
