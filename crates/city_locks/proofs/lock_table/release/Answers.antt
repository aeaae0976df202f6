use Rattle.city_locks.proofs.Prelude.{rules}
use Rattle.city_locks.proofs.Ids.{stamp_apart}
use Rattle.city_locks.proofs.Tables.{Frees, freed_listed, listed_freed}
use Rattle.city_locks.proofs.lock_table.release.Goals as goal

pub returns-in-Some : goal.returns-in-Some
returns-in-Some c =
    let frees : Frees c.args.holders.now.entries c.release_all.new.held.entries c.args.stamp =
    record { holders = c.release_all.ensures } in
    record {
      holders = frees.holders;
      listed = listed_freed frees c.args.locked.now c.remove.new.self c.requires (λ t ne. search (rules, stamp_apart));
    }

pub returns-in_default-clause-holders : goal.returns-in_default-clause-holders
returns-in_default-clause-holders c =
    let v = c.args.holders.now.entries in
    (freed_listed v v c.args.locked.now c.args.stamp c.requires (λ q. search rules)).holders
