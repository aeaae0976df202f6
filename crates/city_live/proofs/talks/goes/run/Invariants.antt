use Rattle.std.specs.Prelude.{None}
use Rattle.city_live.specs.Running.{RunsTo}
use Rattle.city_live.proofs.talks.goes.run.Given as goal

abbrev pub invariant-loop : goal.invariant-loop
invariant-loop l = RunsTo l.stamp l.commands l.replies.items None l.fn.session l.session
