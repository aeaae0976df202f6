use Rattle.city_decimals.proofs.Prelude.{ℕ, ◌≤◌, List, ◌++◌, length, AreDecodedLines}
use Rattle.city_decimals.specs.Lines.{HasPrintedLines}
use Rattle.city_decimals.specs.internal.Sections.{AreDecodedBehind}
use Rattle.city_decimals.proofs.lines.append_decoded.Given as goal

-- the decoding of the rest goes after the earlier output
abbrev pub invariant-loop-at : goal.invariant-loop-at
invariant-loop-at l =
    record {
      within : length l.rest ≤ length l.text;
      printed : HasPrintedLines l.rest;
      ready : (more : List ℕ) → AreDecodedLines l.rest more
          → AreDecodedBehind l.fn.buffer.items l.text (l.out.items ++ more);
    }

abbrev pub decreases-loop-at : goal.decreases-loop-at
decreases-loop-at l = length l.rest
