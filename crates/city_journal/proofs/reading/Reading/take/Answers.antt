use Rattle.std.proofs.Common.{◌∙◌, Some, ap, sym}
use Rattle.city_journal.specs.declared.line.Line.TheVariants as line
use Rattle.city_journal.proofs.Skipped.{none_there, said_there, skip_told}
use Rattle.city_journal.proofs.reading.Reading.take.Goals as goal

pub returns-in-Some-Commit-clause-skipped : goal.returns-in-Some-Commit-clause-skipped
returns-in-Some-Commit-clause-skipped c = λ h.
    let before = c.args.self.now.version in
    let same = said_there before c.args.line.now c.in_ok-commit.field-0 (line.Commit c.in-Some-Commit.commit)
    c.in_ok-commit.ensures.written (c.in-Some-Commit.is ∙ ap Some c.in-Some-Commit.field-0-is) h in
    skip_told c.take_commit.result c.args.number (c.take_commit.ensures.skipped (λ e. h.other (sym same.2 ∙ e)))

pub returns-in-Some-Saved-clause-skipped : goal.returns-in-Some-Saved-clause-skipped
returns-in-Some-Saved-clause-skipped c = λ h.
    absurd (said_there c.args.self.now.version c.args.line.now c.in_ok-commit.field-0 (line.Saved c.in-Some-Saved.sum)
    c.in_ok-commit.ensures.written (c.in-Some-Saved.is ∙ ap Some c.in-Some-Saved.field-0-is) h)

pub returns-in-Some-Key-clause-skipped : goal.returns-in-Some-Key-clause-skipped
returns-in-Some-Key-clause-skipped c = λ h.
    absurd (said_there c.args.self.now.version c.args.line.now c.in_ok-commit.field-0 (line.Key c.in-Some-Key.key)
    c.in_ok-commit.ensures.written (c.in-Some-Key.is ∙ ap Some c.in-Some-Key.field-0-is) h)

pub returns-in-Some-Base-clause-skipped : goal.returns-in-Some-Base-clause-skipped
returns-in-Some-Base-clause-skipped c = λ h.
    said_there c.args.self.now.version c.args.line.now c.in_ok-commit.field-0 (line.Base c.in-Some-Base._base)
    c.in_ok-commit.ensures.written (c.in-Some-Base.is ∙ ap Some c.in-Some-Base.field-0-is) h

pub returns-in-None-clause-skipped : goal.returns-in-None-clause-skipped
returns-in-None-clause-skipped c = λ h.
    none_there c.args.self.now.version c.args.line.now c.in_ok-commit.field-0 c.in_ok-commit.ensures.written c.in-None.is h
