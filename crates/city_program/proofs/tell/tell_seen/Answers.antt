use Rattle.city_program.proofs.Prelude.{subst}
use Rattle.city_program.specs.Programs.{memory_line}
use Rattle.city_program.specs.internal.Telling.{IsToldAfter}
use Rattle.city_program.proofs.Telling.{told_all, told_next, told_in_part}
use Rattle.city_program.proofs.tell.tell_seen.Goals as goal

pub loop-viewer-preserved : goal.loop-viewer-preserved
loop-viewer-preserved g c =
    told_next c.loop-viewer.viewer c.args.seen.now c.index-seen-viewer.result c.as_slice.result.now
    (g.E.Write.contents c.args.errors.now.0) (g.E.Write.contents c.loop-viewer.errors.0)
    (g.E.Write.contents c.tell_viewer.new.errors.0) c.loop-viewer.errors.1 c.tell_viewer.new.errors.1
    c.loop-viewer-test.true c.index-seen-viewer.is c.as_slice.ensures.value c.loop-viewer.invariant
    c.in-Ok.ensures.told

pub returns-in_default : goal.returns-in_default
returns-in_default g c =
    let now = c.tell_memory.new.errors in
    told_in_part c.loop-viewer.viewer c.args.seen.now c.args.behind.now (g.E.Write.contents c.args.errors.now.0)
    (g.E.Write.contents c.loop-viewer.errors.0) (g.E.Write.contents now.0) c.args.status c.tell_memory.result
    c.loop-viewer.errors.1 now.1 c.loop-viewer-test.true c.tell_memory.ensures.status c.loop-viewer.invariant
    (subst (λ before. IsToldAfter before.1 (g.E.Write.contents before.0) (g.E.Write.contents now.0) now.1 memory_line)
    c.in_default.ensures.kept c.tell_memory.ensures.told)
