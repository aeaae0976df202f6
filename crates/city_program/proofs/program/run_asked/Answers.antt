use Rattle.city_program.proofs.Prelude.{sym, subst, ◌∙◌, EndsAsked, IsSeenTold}
use Rattle.city_program.specs.Programs.{Streams}
use Rattle.city_program.proofs.Telling.{ends_faultless, ends_told, ends_faulty}
use Rattle.city_program.proofs.program.run_asked.Goals as goal

pub returns-then-tells_no_faults-clause-ended : goal.returns-then-tells_no_faults-clause-ended
returns-then-tells_no_faults-clause-ended g c =
    let told = g.E.Write.contents c.args.errors.now.0 in
    let telling = g.E.Write.contents c.tell-then-tells_no_faults.new.errors.0 in
    let mute = c.tell-then-tells_no_faults.new.errors.1 in
    let answer = c.in-Ok.answer in
    ends_faultless c.args.terminal _ told telling mute c.args.asked.now answer.status answer.seen.items
    c.in-Ok.ensures.answered c.in-Ok.ensures.steps (sym c.tells_no_faults.ensures ∙ c.if-tells_no_faults.true)
    c.tell-then-tells_no_faults.ensures.0

pub returns-else-tells_no_faults-clause-ended : goal.returns-else-tells_no_faults-clause-ended
returns-else-tells_no_faults-clause-ended g c =
    let told = g.E.Write.contents c.args.errors.now.0 in
    let telling = g.E.Write.contents c.tell_seen.new.errors.0 in
    let mute = c.tell_seen.new.errors.1 in
    let answer = c.in-Ok.answer in
    let behind = c.as_str.result.now in
    ends_told c.args.terminal _ told telling mute c.args.asked.now behind
    (λ plain. c.as_str.ensures.value ∙ c.refused_lines-behind.ensures plain) answer.status c.tell_seen.result
    answer.seen.items (sym c.tells_no_faults.ensures ∙ c.if-tells_no_faults.false) c.in-Ok.ensures.answered
    c.in-Ok.ensures.steps
    (subst (λ seen. IsSeenTold answer.status c.tell_seen.result told telling mute seen behind)
    c.as_slice-in-Ok.ensures.value c.tell_seen.ensures)

pub returns-in-Err-clause-ended : goal.returns-in-Err-clause-ended
returns-in-Err-clause-ended g c =
    let streams : Streams = record {
      before = g.F.TextFiles.text c.args.files.now;
      after = g.F.TextFiles.text c.answer.new.files;
      files_failed = g.F.OutputFiles.have_failed c.answer.new.files;
      begun = g.F.TextFiles.steps c.args.files.now;
      ended = g.F.TextFiles.steps c.answer.new.files;
      input = g.R.Read.remaining c.args.input.now.0;
      reader_failed = c.answer.new.input.1;
      old = g.W.Write.contents c.args.output.now.0;
      new = g.W.Write.contents c.answer.new.output.0;
      failed = c.answer.new.output.1;
    } in
    let told = g.E.Write.contents c.args.errors.now.0 in
    let telling = g.E.Write.contents c.tell_unanswered.new.errors.0 in
    let mute = c.tell_unanswered.new.errors.1 in
    subst (λ status. EndsAsked c.args.terminal c.args.asked.now status streams told telling mute)
    (sym c.tell_unanswered.ensures.status)
    (ends_faulty c.args.terminal streams told telling mute c.args.asked.now c.args.errors.now.1 c.in-Err.fault
    c.in-Err.ensures.fault c.tell_unanswered.ensures.told)
