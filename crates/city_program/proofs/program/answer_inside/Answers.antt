use Rattle.std.proofs.Common.{rules}
use Rattle.city_program.proofs.Prelude.{List, [], ◌∷◌, inl, refl, subst, sym, ◌∙◌}
use Rattle.city_serve.proofs.KnownBytes.{keeps_same}
use Rattle.city_serve.proofs.Taken.{takes_more, takes_none}
use Rattle.city_serve.specs.Steps.{Step, Takes}
use Rattle.city_program.specs.Programs.{IsUnansweredBy, Streams}
use Rattle.city_program.proofs.Files.{files_broken, files_done}
use Rattle.city_program.proofs.Checked.{checked_as}
use Rattle.city_program.proofs.program.answer_inside.Goals as goal

pub returns-in_ok-faulty-in-Check-clause-answered : goal.returns-in_ok-faulty-in-Check-clause-answered
returns-in_ok-faulty-in-Check-clause-answered g c =
    let streams : Streams = record {
      before = g.F.TextFiles.text c.args.files.now;
      after = g.F.TextFiles.text c.check.new.files;
      files_failed = g.F.OutputFiles.have_failed c.check.new.files;
      begun = g.F.TextFiles.steps c.args.files.now;
      ended = g.F.TextFiles.steps c.check.new.files;
      input = g.R.Read.remaining c.args.input.now.0;
      reader_failed = c.args.input.now.1;
      old = g.W.Write.contents c.args.output.now.0;
      new = g.W.Write.contents c.check.new.output.0;
      failed = c.check.new.output.1;
    } in
    checked_as streams c.args.asked.now c.in-Check.options c.in-Check.model c.in-Check.scripts
    c.check_answer.result.seen.items c.check_answer.result.status c.in_ok-faulty-in-Check.faulty c.in-Check.is
    c.check_answer.ensures.seen c.check_answer.ensures.status c.check.ensures.texts
    c.in_ok-faulty-in-Check.ensures.checked

pub returns-in_err-document-in-Input-clause-fault : goal.returns-in_err-document-in-Input-clause-fault
returns-in_err-document-in-Input-clause-fault g c =
    let text = g.F.TextFiles.text c.args.files.now in
    let taken = g.F.TextFiles.steps c.args.files.now in
    let output = g.W.Write.contents c.args.output.now.0 in
    let streams : Streams = record {
      before = text;
      after = text;
      files_failed = g.F.OutputFiles.have_failed c.args.files.now;
      begun = taken;
      ended = taken;
      input = g.R.Read.remaining c.args.input.now.0;
      reader_failed = c.read_input.new.reader.1;
      old = output;
      new = output;
      failed = c.args.output.now.1;
    } in
    let f = c.in_err-document-in-Input.field-0.0 in
    let fault : (steps : List Step) × IsUnansweredBy streams c.args.asked.now f steps × Takes taken taken steps = (
      [],
      subst (λ asked. IsUnansweredBy streams asked f []) (sym c.in-Input.is)
          (inl (c.in_err-document-in-Input.ensures.fault, keeps_same output, refl, (0, refl))),
      takes_none taken,
    ) in
    search (fault, rules)

pub returns-in_err-read-in-Files-2-clause-fault : goal.returns-in_err-read-in-Files-2-clause-fault
returns-in_err-read-in-Files-2-clause-fault g c =
    let begun = g.F.TextFiles.steps c.args.files.now in
    let middle = g.F.TextFiles.steps c.read.new.self in
    let ended = g.F.TextFiles.steps c.read-in-Files.new.self in
    let output = g.W.Write.contents c.args.output.now.0 in
    let streams : Streams = record {
      before = g.F.TextFiles.text c.args.files.now;
      after = g.F.TextFiles.text c.read-in-Files.new.self;
      files_failed = g.F.OutputFiles.have_failed c.read-in-Files.new.self;
      begun = begun;
      ended = ended;
      input = g.R.Read.remaining c.args.input.now.0;
      reader_failed = c.args.input.now.1;
      old = output;
      new = output;
      failed = c.args.output.now.1;
    } in
    let f = c.in_err-read-in-Files-2.field-0.0 in
    let model = c.in-Files.model.now in
    let fault : (steps : List Step) × IsUnansweredBy streams c.args.asked.now f steps × Takes begun ended steps = (
      Step.Read model ∷ [],
      subst (λ asked. IsUnansweredBy streams asked f (Step.Read model ∷ [])) (sym c.in-Files.is)
          (inl (
            c.in_err-read-in-Files-2.ensures.fault,
            keeps_same output,
            c.in_err-read-in-Files-2.ensures.texts ∙ c.in_ok-read-in-Files.ensures.texts,
            (1, refl),
          )),
      takes_more begun middle ended (Step.Read model ∷ []) [] c.in_ok-read-in-Files.ensures.steps
          c.in_err-read-in-Files-2.ensures.steps,
    ) in
    search (fault, rules)

pub returns-in_err-delivered-in-Files-clause-fault : goal.returns-in_err-delivered-in-Files-clause-fault
returns-in_err-delivered-in-Files-clause-fault g c =
    let begun = g.F.TextFiles.steps c.args.files.now in
    let ended = g.F.TextFiles.steps c.serve_to-in-Files.new.files in
    let first = c.in_ok-read-in-Files.ensures in
    let second = c.in_ok-read-in-Files-2.ensures in
    let streams : Streams = record {
      before = g.F.TextFiles.text c.args.files.now;
      after = g.F.TextFiles.text c.serve_to-in-Files.new.files;
      files_failed = g.F.OutputFiles.have_failed c.serve_to-in-Files.new.files;
      begun = begun;
      ended = ended;
      input = g.R.Read.remaining c.args.input.now.0;
      reader_failed = c.args.input.now.1;
      old = g.W.Write.contents c.args.output.now.0;
      new = g.W.Write.contents c.serve_to-in-Files.new.writer.0;
      failed = c.serve_to-in-Files.new.writer.1;
    } in
    let f = c.in_err-delivered-in-Files.field-0.0 in
    let fault : (steps : List Step) × IsUnansweredBy streams c.args.asked.now f steps × Takes begun ended steps =
    files_broken streams (g.F.TextFiles.text c.read.new.self) (g.F.TextFiles.text c.read-in-Files.new.self)
    (g.F.TextFiles.steps c.read.new.self) (g.F.TextFiles.steps c.read-in-Files.new.self) c.args.asked.now
    c.in-Files.options c.in-Files.destination c.in-Files.model c.in-Files.scripts c.in-Files.is
    c.in_ok-read-in-Files.field-0 c.in_ok-read-in-Files-2.field-0 c.given-in-Files.result.bytes
    c.given-in-Files-2.result.bytes c.given-in-Files.ensures.bytes c.given-in-Files-2.ensures.bytes first.read
    second.read first.texts second.texts first.steps second.steps f c.in_err-delivered-in-Files.ensures.fault in
    search (fault, rules)

pub returns-in_ok-delivered-in-Files-clause-steps : goal.returns-in_ok-delivered-in-Files-clause-steps
returns-in_ok-delivered-in-Files-clause-steps g c =
    let steps = g.F.TextFiles.steps in
    files_done (steps c.args.files.now) (steps c.read.new.self) (steps c.read-in-Files.new.self)
    (steps c.serve_to-in-Files.new.files) c.args.asked.now c.in-Files.options c.in-Files.destination c.in-Files.model
    c.in-Files.scripts c.in-Files.is c.in_ok-delivered-in-Files.delivered.withheld c.run_answer-in-Files.result.status
    c.run_answer-in-Files.ensures.status c.in_ok-read-in-Files.ensures.steps c.in_ok-read-in-Files-2.ensures.steps
    c.in_ok-delivered-in-Files.ensures.steps
