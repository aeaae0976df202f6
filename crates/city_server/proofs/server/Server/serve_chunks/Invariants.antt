use Rattle.std.specs.Prelude.{◌≡◌, ℕ, List, [], length}
use Rattle.std.specs.Io.KnownBytes.{Consumes}
use Rattle.city_server.specs.Sessions.{ServesBytes}
use Rattle.city_server.proofs.server.Server.serve_chunks.Given as goal

abbrev pub invariant-loop : goal.invariant-loop
invariant-loop g l = (bytes : List ℕ) × Consumes (g.R.Read.remaining l.fn.input.0) (g.R.Read.remaining l.input.0) bytes
    × ServesBytes bytes [] l.begun.skip l.begun.kept.items l.fn.self.hands l.self.hands
    l.fn.self.told l.self.told (g.W.Write.contents l.fn.output.0) (g.W.Write.contents l.output.0)
    × (length l.chunk ≡ length l.fn.chunk)
