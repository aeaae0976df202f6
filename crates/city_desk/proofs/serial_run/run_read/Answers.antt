use Rattle.city_desk.proofs.Prelude.{[], ◌∷◌, ◌++◌, ap, ◌∙◌, city_text, report_text}
use Rattle.city_model.specs.declared.frame.Frame.{Frame}
use Rattle.city_desk.proofs.serial_run.run_read.Goals as goal

pub returns-clause-ran : goal.returns-clause-ran
returns-clause-ran c document text read =
    let run = c.in_ok-finished.ensures in
    let left = c.in_ok-finished.finished.city in
    record {
      city = c.args.city;
      list = c.args.scripts;
      read = read;
      ran = record { each_once = run.each_once; fits = run.fits; lawful = run.lawful };
      output = record {
        model = left.1;
        left = run.model;
        text = (rw c.as_slice.ensures at c.in_ok-bytes.ensures.bytes)
            ∙ ap (λ (f : Frame). report_text c.in_ok-finished.finished.ends ++ city_text (f, left.1) ++ 10 ∷ [])
            run.frame;
      };
    }
