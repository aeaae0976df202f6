use Rattle.std.proofs.Common.{rules}
use Rattle.city_serve.proofs.Prelude.{List, [], drop, refl, subst, sym, take}
use Rattle.city_model.specs.SerialEnds.{commits_in}
use Rattle.city_crew.specs.Seen.{AreSeen}
use Rattle.city_serve.specs.Destinations.{IsDeliveryFault}
use Rattle.city_serve.specs.Steps.{Step, Takes}
use Rattle.city_serve.specs.declared.fault.ServeFault.{ServeFault}
use Rattle.city_serve.proofs.KnownBytes.{keeps_same}
use Rattle.city_serve.proofs.Serving.{cut_fault, in_parts}
use Rattle.city_serve.proofs.Taken.{takes_none}
use Rattle.city_serve.proofs.serve_texts.serve_to.Goals as goal

pub returns-clause-delivered : goal.returns-clause-delivered
returns-clause-delivered g c =
    let output = c.in_ok-output.output in
    let bytes = output.bytes.items in
    let asked = c.args.options in
    let document = c.args.texts.now.document.bytes.items in
    let scripts = c.args.texts.now.scripts.bytes.items in
    let run = c.in_ok-output.ensures in
    let is = c.in_ok-delivered.ensures.written in (
      record {
        ends = output.ends;
        report = take output.report bytes;
        model = drop output.report bytes;
        run = in_parts asked document scripts output.ends bytes output.report run.ran run.in_turn
            run.cut;
        looked = subst (λ s. AreSeen asked.viewers (commits_in output.ends) s.items) (sym is.0) run.seen;
        withheld_is = is.1;
        written = is.2;
        placed = is.3;
      },
      run.city,
    )

pub returns-in_err-output-clause-fault : goal.returns-in_err-output-clause-fault
returns-in_err-output-clause-fault g c =
    let document = c.args.texts.now.document.bytes.items in
    let scripts = c.args.texts.now.scripts.bytes.items in
    let text = g.F.TextFiles.text c.args.files.now in
    let files_failed = g.F.OutputFiles.have_failed c.args.files.now in
    let old = g.W.Write.contents c.args.writer.now.0 in
    let taken = g.F.TextFiles.steps c.args.files.now in
    let fault : (steps : List Step) × IsDeliveryFault c.args.destination c.args.options document scripts text text
    files_failed old old c.args.writer.now.1 steps (ServeFault.Run c.in_err-output.field-0.0) × Takes taken taken steps =
    ([], (keeps_same old, refl, refl, c.in_err-output.ensures.fault), takes_none taken) in
    search (fault, rules)

pub returns-in_err-delivered-clause-fault : goal.returns-in_err-delivered-clause-fault
returns-in_err-delivered-clause-fault g c =
    let output = c.in_ok-output.output in
    let bytes = output.bytes.items in
    let asked = c.args.options in
    let document = c.args.texts.now.document.bytes.items in
    let scripts = c.args.texts.now.scripts.bytes.items in
    let run = c.in_ok-output.ensures in
    let f = c.in_err-delivered.field-0.0 in
    let is = c.in_err-delivered.ensures.fault in
    let before = g.F.TextFiles.text c.args.files.now in
    let after = g.F.TextFiles.text c.deliver.new.files in
    let files_failed = g.F.OutputFiles.have_failed c.deliver.new.files in
    let old = g.W.Write.contents c.args.writer.now.0 in
    let new = g.W.Write.contents c.deliver.new.writer.0 in
    let fault : (steps : List Step) × IsDeliveryFault c.args.destination asked document scripts before after
    files_failed old new c.deliver.new.writer.1 steps f
    × Takes (g.F.TextFiles.steps c.args.files.now) (g.F.TextFiles.steps c.deliver.new.files) steps = (
      is.0,
      cut_fault c.args.destination asked document scripts before after files_failed old new c.deliver.new.writer.1 is.0
          f (record {
            ends = output.ends;
            report = take output.report bytes;
            model = drop output.report bytes;
            run = in_parts asked document scripts output.ends bytes output.report run.ran run.in_turn
                run.cut;
            broken = is.1;
          }),
      is.2,
    ) in
    search (fault, rules)
