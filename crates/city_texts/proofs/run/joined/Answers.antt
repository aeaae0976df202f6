use Rattle.city_texts.proofs.Parts.{run_appended}
use Rattle.city_texts.proofs.run.joined.Goals as goal

pub loop-piece-preserved : goal.loop-piece-preserved
loop-piece-preserved g c =
    let l = c.loop-piece in
    let left = rw c.in-Some.ensures.steps.0 at l.invariant.1 in
    let next = rw c.in_ok-piece.was at left.0 in (
      run_appended g.T.Part.stands c.args.text.now c.append.result l.all c.in_ok-piece.field-0 c.append.new.self
          c.append.ensures l.invariant.0 next,
      left.1,
    )
