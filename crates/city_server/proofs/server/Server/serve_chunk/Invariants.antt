use Rattle.std.specs.Prelude.{ℕ, List, ◌++◌, length}
use Rattle.city_journal.specs.Lines.{IsLine}
use Rattle.city_server.specs.Lines.{HasBegun}
use Rattle.city_server.specs.Sessions.{ServesBytes}
use Rattle.city_server.proofs.server.Server.serve_chunk.Given as goal

abbrev pub invariant-loop-line : goal.invariant-loop-line
invariant-loop-line g l = (start : List ℕ) → HasBegun l.fn.begun.skip l.fn.begun.kept.items start → IsLine start
    → ServesBytes (start ++ l.fn.bytes) l.rest l.begun.skip l.begun.kept.items l.fn.self.hands l.self.hands
    l.fn.self.told l.self.told (g.W.Write.contents l.fn.output.0) (g.W.Write.contents l.output.0)

abbrev pub decreases-loop-line : goal.decreases-loop-line
decreases-loop-line g l = length l.rest
