use Rattle.std.proofs.Common.{rules}
use Rattle.std.proofs.lemmas.Result.{IfErr-weaker}
use Rattle.city_program.proofs.Prelude.{Some, inr, ◌≡◌}
use Rattle.city_program.proofs.Locked.{takes_locked, unanswered_outside}
use Rattle.city_program.specs.Programs.{Streams, output_of}
use Rattle.city_program.proofs.program.answer.Goals as goal

pub returns-clause-fault : goal.returns-clause-fault
returns-clause-fault g c =
    let text = g.F.TextFiles.text in
    let steps = g.F.TextFiles.steps in
    let failed = g.F.OutputFiles.have_failed in
    let start = c.args.files.now in
    let locked = c.lock.new.self in
    let done = c.answer_inside-answered.new.files in
    let end = c.unlock.new.self in
    let asked = c.args.asked.now in
    let path = c.in-Some.path.now in
    let inside : Streams = record {
      before = text locked;
      after = text done;
      files_failed = failed done;
      begun = steps locked;
      ended = steps done;
      input = g.R.Read.remaining c.args.input.now.0;
      reader_failed = c.answer_inside-answered.new.input.1;
      old = g.W.Write.contents c.args.output.now.0;
      new = g.W.Write.contents c.answer_inside-answered.new.output.0;
      failed = c.answer_inside-answered.new.output.1;
    } in
    let file : Some path ≡ output_of asked = search (c.in-Some.ensures, rules) in
    IfErr-weaker c.answer_inside-answered.result _ _ (λ f is. inr (
      is.0,
      unanswered_outside inside (text start) (text end) (failed end) (steps start) (steps end) c.lock.ensures.texts
          c.unlock.ensures.texts c.unlock.ensures.unfailed asked f is.0 is.1,
      takes_locked (steps start) (steps locked) (steps done) (steps end) path (output_of asked) is.0 file
          c.in_ok-lock.ensures.steps is.2 c.unlock.ensures.steps,
    )) c.answer_inside-answered.ensures.fault
