use Rattle.city_diagnostics.specs.Warnings.{AreWarnings}
use Rattle.city_diagnostics.proofs.check.warnings.warn_scripts.Given as goal

abbrev pub invariant-loop-number : goal.invariant-loop-number
invariant-loop-number l = AreWarnings l.lines.items

abbrev pub invariant-loop-place : goal.invariant-loop-place
invariant-loop-place l = AreWarnings l.lines.items
