use Rattle.city_crew.proofs.Prelude.{List, [], ◌∷◌, ◌++◌, ap, ◌∙◌, End, city_text, report_text}
use Rattle.city_crew.proofs.run.gather.Goals as goal

pub returns-clause-city : goal.returns-clause-city
returns-clause-city g c =
    c.in_ok-bytes.ensures.bytes
    ∙ ap (λ (es : List End). report_text es ++ city_text c.args.finished.city ++ 10 ∷ []) c.as_slice-2.ensures
