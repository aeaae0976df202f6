use Rattle.std.proofs.Common.{◌≡◌}
use Rattle.city_journal.specs.LineTexts.{saved_text}
use Rattle.city_journal.proofs.Followed.{also_ok, follows_saved}
use Rattle.city_journal.proofs.Kept.{saved_as}
use Rattle.city_journal.proofs.journaling.Journaling.begin_save.Goals as goal

pub returns-in-Ok-clause-ok : goal.returns-in-Ok-clause-ok
returns-in-Ok-clause-ok g c =
    saved_as g.F.JournalFile.seen g.F.JournalFile.may_leave c.note.result _ _ c.self.inside.file c.args.self.now.file
    c.note.new.file c.in-Ok.ensures.text (λ i. (c.self.view_is i).file) c.note.ensures.ok

pub returns-in-Ok-clause-follows : goal.returns-in-Ok-clause-follows
returns-in-Ok-clause-follows g c =
    let sum = c.args.sum.now.bytes in
    also_ok c.note.result (follows_saved g.F.JournalFile.seen g.F.JournalFile.may_leave c.args.self.now.decimals
    (λ l. l ≡ saved_text sum) c.args.self.now.file c.note.new.file (λ l e. (sum, c.in-Ok.ensures.sum, e)))
    (saved_as g.F.JournalFile.seen g.F.JournalFile.may_leave c.note.result _ _ c.self.inside.file c.args.self.now.file
    c.note.new.file c.in-Ok.ensures.text (λ i. (c.self.view_is i).file) c.note.ensures.ok)
