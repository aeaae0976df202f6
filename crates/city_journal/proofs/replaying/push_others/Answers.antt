use Rattle.std.proofs.Common.{rules}
use Rattle.city_journal.proofs.Replays.{next_script}
use Rattle.city_journal.proofs.replaying.push_others.Goals as goal

pub loop-commit-preserved : goal.loop-commit-preserved
loop-commit-preserved c = search (rules, next_script)
