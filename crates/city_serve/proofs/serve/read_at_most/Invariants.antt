use Rattle.city_serve.proofs.Prelude.{◌≡◌, ◌≤◌, ◌-◌, length, Consumes}
use Rattle.std.proofs.Common.{vec_len}
use Rattle.city_serve.proofs.serve.read_at_most.Given as goal

abbrev pub invariant-loop-chunk : goal.invariant-loop-chunk
invariant-loop-chunk g l = Consumes (g.R.Read.remaining l.fn.reader.0) (g.R.Read.remaining l.reader.0) l.input.items
    × (length l.input.items ≤ l.most) × (l.reader.1 ≡ l.fn.reader.1)

abbrev pub decreases-loop-chunk : goal.decreases-loop-chunk
decreases-loop-chunk g l = l.most - vec_len l.input
