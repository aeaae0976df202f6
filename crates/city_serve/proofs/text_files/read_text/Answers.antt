use Rattle.city_serve.proofs.Prelude.{IfOk-weaker}
use Rattle.city_serve.proofs.EnoughRead.{enough_read}
use Rattle.city_serve.proofs.text_files.read_text.Goals as goal

pub returns-clause-enough : goal.returns-clause-enough
returns-clause-enough g c =
    IfOk-weaker c.read_at_most.result _ _ (λ v read. enough_read (g.R.Read.remaining c.args.reader.now.0) v.items read)
    c.read_at_most.ensures.input
