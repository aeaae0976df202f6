use Rattle.city_txn.proofs.Prelude.{rules}
use Rattle.city_txn.proofs.PerformDone.{unplanned_performed, refused_performed, may_write, unwritten_performed}
use Rattle.city_txn.proofs.PerformDone.{written_performed}
use Rattle.city_txn.proofs.store.Store.carry_out.Goals as goal

pub write_all-requires : goal.write_all-requires
write_all-requires c =
    may_write _ _ _ c.requires.no_mark _ c.in_ok-cause.ensures.plan _ _ c.in-Writes.is c.requires.may

pub returns-in_err-cause : goal.returns-in_err-cause
returns-in_err-cause c = search (rules, unplanned_performed)

pub returns-in-Refused : goal.returns-in-Refused
returns-in-Refused c =
    refused_performed _ _ _ c.requires.no_mark _ c.in_ok-cause.ensures.plan _ c.in-Refused.is

pub returns-in_err-write_all-in-Writes : goal.returns-in_err-write_all-in-Writes
returns-in_err-write_all-in-Writes c =
    let e = c.in_err-write_all-in-Writes.ensures in
    unwritten_performed _ _ _ c.requires.no_mark _ c.in_ok-cause.ensures.plan _ _ c.in-Writes.is _ e.touches e.marks _
    c.from_residual-in_err-write_all-in-Writes.ensures.0 e.writes

pub returns-in_ok-write_all-in-Writes : goal.returns-in_ok-write_all-in-Writes
returns-in_ok-write_all-in-Writes c =
    let e = c.in_ok-write_all-in-Writes.ensures in
    written_performed _ _ _ c.requires.no_mark _ c.in_ok-cause.ensures.plan _ _ c.in-Writes.is _ e.touches e.marks e.writes
