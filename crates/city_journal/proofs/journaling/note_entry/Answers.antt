use Rattle.city_journal.specs.Entries.{IsCommitLine}
use Rattle.city_live.specs.Entering.{noted_by}
use Rattle.city_journal.proofs.Followed.{also_ok, follows_one, line_of_entry}
use Rattle.city_journal.proofs.Kept.{noted_as}
use Rattle.city_journal.proofs.journaling.note_entry.Goals as goal

pub returns-clause-ok : goal.returns-clause-ok
returns-clause-ok g c =
    noted_as g.F.JournalFile.seen g.F.JournalFile.may_leave (IsCommitLine c.args.decimals c.args.entry.now) c.note.result
    c.args.line.items c.args.file.now c.note.new.file c.requires c.note.ensures.ok

pub returns-clause-follows : goal.returns-clause-follows
returns-clause-follows g c =
    let d = c.args.decimals in
    let e = c.args.entry.now in
    also_ok c.note.result (follows_one g.F.JournalFile.seen g.F.JournalFile.may_leave d (IsCommitLine d e) (noted_by e)
    c.args.file.now c.note.new.file (line_of_entry d e))
    (noted_as g.F.JournalFile.seen g.F.JournalFile.may_leave (IsCommitLine d e) c.note.result c.args.line.items
    c.args.file.now c.note.new.file c.requires c.note.ensures.ok)
