use Rattle.city_locks.proofs.Prelude.{◌≡◌, List, ℕ, cond, take, without, has_id, holders_of}
use Rattle.city_locks.proofs.holders_by_id.release_each.Given as goal

abbrev pub invariant-loop-id : goal.invariant-loop-id
invariant-loop-id l = (q : List ℕ) → holders_of l.held.entries q ≡
    cond (has_id (take l.id-index l.ids) q) (without (holders_of l.fn.held.entries q) l.stamp)
    (holders_of l.fn.held.entries q)
