use Rattle.city_journal.proofs.Kept.{may_tell, stays_unsynced}
use Rattle.city_journal.proofs.noting.sync_file.Goals as goal

pub returns-in-Ok-clause-ok : goal.returns-in-Ok-clause-ok
returns-in-Ok-clause-ok g c =
    may_tell g.F.JournalFile.seen g.F.JournalFile.may_leave c.args.file.now c.sync.new.self c.sync.ensures.seen
    c.in-Ok.ensures.ok

pub returns-in-Err-clause-err : goal.returns-in-Err-clause-err
returns-in-Err-clause-err g c =
    stays_unsynced g.F.JournalFile.seen g.F.JournalFile.may_leave c.args.file.now c.sync.new.self c.sync.ensures.seen
    c.in-Err.ensures.err
