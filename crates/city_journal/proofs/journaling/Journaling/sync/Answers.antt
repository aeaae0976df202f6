use Rattle.std.proofs.Common.{rules, subst}
use Rattle.city_journal.specs.Kept.{GoesBy, MayTell}
use Rattle.city_journal.proofs.Followed.{tells_all}
use Rattle.city_journal.proofs.Kept.{may_tell_all}
use Rattle.city_journal.proofs.journaling.Journaling.sync.Goals as goal

pub returns-then-self-clause-ok : goal.returns-then-self-clause-ok
returns-then-self-clause-ok g c =
    may_tell_all g.F.JournalFile.seen g.F.JournalFile.may_leave _ (search rules)

pub returns-then-self-clause-told : goal.returns-then-self-clause-told
returns-then-self-clause-told g c =
    let file = c.args.self.now.file in
    tells_all g.F.JournalFile.seen g.F.JournalFile.may_leave c.args.self.now.decimals file file
    (may_tell_all g.F.JournalFile.seen g.F.JournalFile.may_leave file (search rules))

pub returns-clause-told : goal.returns-clause-told
returns-clause-told g c =
    tells_all g.F.JournalFile.seen g.F.JournalFile.may_leave c.args.self.now.decimals c.args.self.now.file c.sync.new.file
    (subst (λ f. GoesBy (MayTell g.F.JournalFile.seen g.F.JournalFile.may_leave) f c.sync.new.file)
    (λ i. (c.self.view_is i).file) c.in_ok-sync.ensures.ok)
