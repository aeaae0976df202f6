use Rattle.std.proofs.Common.{drop}
use Rattle.std.specs.List.{AllByRecursion}
use Rattle.city_journal.specs.Replays.{IsCommitted}
use Rattle.city_journal.proofs.replaying.first_uncommitted.Given as goal

abbrev pub invariant-loop-end : goal.invariant-loop-end
invariant-loop-end l = AllByRecursion IsCommitted (drop l.end-index l.ends) → AllByRecursion IsCommitted l.ends
