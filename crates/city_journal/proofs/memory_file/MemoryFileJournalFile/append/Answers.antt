use Rattle.std.proofs.Common.{rules}
use Rattle.city_journal.proofs.Kept.{grown_left}
use Rattle.city_journal.proofs.memory_file.MemoryFileJournalFile.append.Goals as goal

pub returns-in-Ok-clause-ok_left : goal.returns-in-Ok-clause-ok_left
returns-in-Ok-clause-ok_left c = grown_left _ _ _ _ (search rules)
