use Rattle.std.proofs.Common.{rules, ◌≡◌, ◌++◌, ◌∷◌, ◌∙◌, [], sym}
use Rattle.city_journal.specs.Lines.{IsLine}
use Rattle.city_journal.proofs.Kept.{gains, stays}
use Rattle.city_journal.proofs.noting.append_line.Goals as goal

pub returns-in-Ok-clause-ok : goal.returns-in-Ok-clause-ok
returns-in-Ok-clause-ok g c =
    let is : IsLine c.args.line.items = rw c.as_slice.ensures.value at (sym c.has_newline.ensures ∙ c.if-has_newline.false) in
    let eq : c.as_slice-2.result.now ≡ c.args.line.items ++ 10 ∷ [] = search rules in
    gains g.F.JournalFile.seen g.F.JournalFile.may_leave c.args.file.now c.append.new.self c.args.line.items is
    (rw eq at c.in-Ok.ensures.ok) (rw eq at c.in-Ok.ensures.ok_left)

pub returns-clause-err : goal.returns-clause-err
returns-clause-err g c =
    let is : IsLine c.args.line.items = rw c.as_slice.ensures.value at (sym c.has_newline.ensures ∙ c.if-has_newline.false) in
    let eq : c.as_slice-2.result.now ≡ c.args.line.items ++ 10 ∷ [] = search rules in
    stays g.F.JournalFile.seen g.F.JournalFile.may_leave c.args.file.now c.append.new.self c.args.line.items is
    c.in-Err.ensures.err (rw eq at c.in-Err.ensures.err_left)
