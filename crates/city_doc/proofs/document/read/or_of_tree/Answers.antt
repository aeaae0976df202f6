use Rattle.city_doc.proofs.Prelude.{IfOk-weaker, IsAdmitted}
use Rattle.city_doc.proofs.document.read.or_of_tree.Goals as goal

pub returns-in-None-clause-lawful : goal.returns-in-None-clause-lawful
returns-in-None-clause-lawful c =
    IfOk-weaker c.read_tree.result (IsAdmitted c.args.bytes.now) _ (λ city h. h.4) c.read_tree.ensures.admitted

pub returns-in-None-clause-readable : goal.returns-in-None-clause-readable
returns-in-None-clause-readable c =
    IfOk-weaker c.read_tree.result (IsAdmitted c.args.bytes.now) _ (λ city h. h.1.0) c.read_tree.ensures.admitted
