use Rattle.std.proofs.Common.{◌≡◌, ◌++◌, drop}
use Rattle.city_live.specs.Noting.{firsts}
use Rattle.city_journal.proofs.steps.commands_of_steps.Given as goal

abbrev pub invariant-loop-step : goal.invariant-loop-step
invariant-loop-step l = firsts l.steps ≡ l.commands.items ++ firsts (drop l.step-index l.steps)
