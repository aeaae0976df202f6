use Rattle.city_program.proofs.Telling.{AreToldTo}
use Rattle.city_program.proofs.tell.tell_seen.Given as goal

abbrev pub invariant-loop-viewer : goal.invariant-loop-viewer
invariant-loop-viewer g l =
    AreToldTo l.viewer l.seen (g.E.Write.contents l.fn.errors.0) (g.E.Write.contents l.errors.0) l.errors.1
