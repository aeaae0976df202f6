use Rattle.city_serve.proofs.Prelude.{sym, ◌∙◌, is_newline}
use Rattle.city_serve.proofs.Inputs.{before_found, after_found, before_none, after_none}
use Rattle.city_serve.proofs.serve.cut.Goals as goal

pub returns-in-Some-clause-document : goal.returns-in-Some-clause-document
returns-in-Some-clause-document c =
    before_found is_newline c.args.input.now c.in-Some.at (sym c.first_newline.ensures ∙ c.in-Some.is)

pub returns-in-Some-clause-scripts : goal.returns-in-Some-clause-scripts
returns-in-Some-clause-scripts c =
    after_found is_newline c.args.input.now c.in-Some.at (sym c.first_newline.ensures ∙ c.in-Some.is)

pub returns-in-None-clause-document : goal.returns-in-None-clause-document
returns-in-None-clause-document c = before_none is_newline c.args.input.now (sym c.first_newline.ensures ∙ c.in-None.is)

pub returns-in-None-clause-scripts : goal.returns-in-None-clause-scripts
returns-in-None-clause-scripts c = after_none is_newline c.args.input.now (sym c.first_newline.ensures ∙ c.in-None.is)
