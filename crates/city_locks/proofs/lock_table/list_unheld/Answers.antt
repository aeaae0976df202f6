use Rattle.city_locks.proofs.Prelude.{◌∙◌, ap, sym, has_id, ids_of}
use Rattle.city_locks.proofs.Tables.{listed_last}
use Rattle.city_locks.proofs.lock_table.list_unheld.Goals as goal

pub returns-in_ok-push-in-None : goal.returns-in_ok-push-in-None
returns-in_ok-push-in-None c =
    let copy = c.in_ok-copy-in-None in
    let l = listed_last c.args.holders.now.entries c.args.locked.now c.push.new.lists c.args.stamp copy.field-0
    c.in_ok-push-in-None.ensures.ok c.requires.listed in
    let own = ap (has_id (ids_of c.push.new.lists c.args.stamp)) (sym copy.ensures) ∙ l.0 in
    record { own = own; absent = tt; listed = l.1 }
