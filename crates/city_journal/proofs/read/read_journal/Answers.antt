use Rattle.std.proofs.Common.{◌≡◌}
use Rattle.city_journal.specs.declared.fault.JournalFault.TheVariants.{OutOfMemory}
use Rattle.city_journal.proofs.Restarts.{restart_read}
use Rattle.city_journal.proofs.read.read_journal.Goals as goal

pub returns-clause-left : goal.returns-clause-left
returns-clause-left c =
    λ sum version told more l. restart_read l (λ f. f ≡ OutOfMemory) c.read_whole.result c.read_whole.ensures.read
