use Rattle.std.proofs.Common.{◌≡◌, drop, false}
use Rattle.city_journal.specs.Strings.{behind_string}
use Rattle.city_journal.proofs.line_parts.string_at_start.Given as goal

abbrev pub invariant-loop-i : goal.invariant-loop-i
invariant-loop-i l = behind_string false (drop 1 l.bytes) ≡ behind_string l.is_escaped (drop l.i l.bytes)
