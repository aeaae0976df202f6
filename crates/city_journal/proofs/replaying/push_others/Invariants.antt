use Rattle.std.proofs.Common.{◌≡◌, ◌++◌, drop}
use Rattle.city_journal.specs.Replays.{others_text, scripts_of}
use Rattle.city_journal.proofs.replaying.push_others.Given as goal

abbrev pub invariant-loop-commit : goal.invariant-loop-commit
invariant-loop-commit l = l.initial.text.items ++ others_text (scripts_of l.commits)
    ≡ l.text.items ++ others_text (scripts_of (drop l.commit-index l.commits))
