use Rattle.city_journal.proofs.Restarts.{left_over}
use Rattle.city_journal.proofs.laws.what_a_crash_leaves.Goals as goal

pub returns : goal.returns
returns g c =
    λ decimals. left_over g.F.JournalFile.seen g.F.JournalFile.may_leave decimals c.args._file.now
