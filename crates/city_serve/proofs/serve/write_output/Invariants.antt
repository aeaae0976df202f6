use Rattle.city_serve.proofs.Prelude.{◌≡◌, ℕ, List, ◌++◌, length, Appends}
use Rattle.city_serve.proofs.serve.write_output.Given as goal

abbrev pub invariant-loop-rest : goal.invariant-loop-rest
invariant-loop-rest g l =
    (done : List ℕ) × (done ++ l.rest ≡ l.fn.bytes)
    × Appends (g.W.Write.contents l.fn.writer.0) (g.W.Write.contents l.writer.0) done × (l.writer.1 ≡ l.fn.writer.1)

abbrev pub decreases-loop-rest : goal.decreases-loop-rest
decreases-loop-rest g l = length l.rest
