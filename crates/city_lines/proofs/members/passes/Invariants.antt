use Rattle.city_lines.proofs.Prelude.{◌≡◌, ◌++◌, List, Token, length}
use Rattle.city_lines.proofs.members.passes.Given as goal

-- if what is left of the value comes next, so did the whole
abbrev pub invariant-loop-token : goal.invariant-loop-token
invariant-loop-token l =
    (rest : List Token) → l.value ++ rest ≡ l.reader → l.fn.value ++ rest ≡ l.fn.reader

abbrev pub decreases-loop-token : goal.decreases-loop-token
decreases-loop-token l = length l.value
