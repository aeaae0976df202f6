use Rattle.city_tokens.proofs.Prelude.{◌≡◌, opened}
use Rattle.city_tokens.proofs.boundaries.read_brackets.Given as goal

abbrev pub invariant-loop-brackets : goal.invariant-loop-brackets
invariant-loop-brackets l = l.initial.reader ≡ opened l.brackets l.reader
