use Rattle.std.proofs.Common.{◌≡◌, ◌-◌, ◌++◌, ℕ, List, drop, length, map}
use Rattle.city_journal.specs.Lines.{EndsLine, IsLine, lines_text}
use Rattle.city_journal.specs.Reads.{AreNext, all_said, reading_so_far}
use Rattle.city_journal.specs.Said.{Said, said_text}
use Rattle.city_journal.specs.Skipped.{IsSkipped}
use Rattle.city_journal.proofs.JournalRead.{AreLeft}
use Rattle.city_journal.proofs.read.read_rest.Given as goal

-- of the lines that were there some are left, and lead to what all lead to
abbrev pub invariant-loop-whole : goal.invariant-loop-whole
invariant-loop-whole l = EndsLine l.bytes l.whole
    × ((ss : List Said) (torn : List ℕ) → AreNext (reading_so_far l.initial.reading) ss → IsLine torn
    → drop l.initial.whole l.bytes ≡ lines_text (map said_text ss) ++ torn
    → AreLeft (reading_so_far l.reading) (drop l.whole l.bytes) torn (all_said (reading_so_far l.initial.reading) ss))
    × (IsSkipped (reading_so_far l.initial.reading) (drop l.initial.whole l.bytes)
    → IsSkipped (reading_so_far l.reading) (drop l.whole l.bytes))

abbrev pub decreases-loop-whole : goal.decreases-loop-whole
decreases-loop-whole l = length l.bytes - l.whole
