use Rattle.city_locks.proofs.Tables.{Adds, listed_added}
use Rattle.city_locks.proofs.lock_table.acquire.Goals as goal

pub returns-clause-listed : goal.returns-clause-listed
returns-clause-listed c =
    let adds : Adds c.args.holders.now.entries c.grant.new.held.entries c.args.stamp c.args.id.now c.args.mode =
    record { holders = c.in_ok-grant.ensures.ok } in
    listed_added adds c.list_unheld.new.locked c.in_ok-list_unheld.ensures.listed c.in_ok-list_unheld.ensures.own
