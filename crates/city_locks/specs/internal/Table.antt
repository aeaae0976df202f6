-- The invariant of a lock table.
use Rattle.city_locks.specs.declared.lock_table.LockTable.TheInside.{Inside}
use Rattle.city_locks.specs.Locks.{Lawful, HoldOnce}
use Rattle.city_locks.specs.internal.Listing.{IsListed}

pub record IsTable (a : Inside) : Type 0 where
  pub lawful : Lawful a.holders.entries
  pub listed : IsListed a.holders.entries a.locked
  pub once : HoldOnce a.holders.entries
