use Rattle.city_locks.proofs.Prelude.{rules}
use Rattle.city_locks.proofs.Tables.{Frees, mode_freed, lawful_freed, once_freed}
use Rattle.city_locks.proofs.lock_table.LockTable.release_all.Goals as goal

pub invariant_of-self : goal.invariant_of-self
invariant_of-self c =
    let frees : Frees c.self.inside.holders.entries c.release.new.holders.entries c.args.stamp =
    record { holders = c.release.ensures.holders } in
    record {
      lawful = lawful_freed frees c.self.invariant.lawful;
      listed = c.release.ensures.listed;
      once = once_freed frees c.self.invariant.once;
    }

pub returns : goal.returns
returns c =
    let frees : Frees c.self.inside.holders.entries c.release.new.holders.entries c.args.stamp =
    record { holders = c.release.ensures.holders } in
    record {
      modes = rw (← c.self.view_is) (mode_freed frees);
      holders = λ q. search rules;
      lawful = lawful_freed frees c.self.invariant.lawful;
      once = once_freed frees c.self.invariant.once;
    }
