use Rattle.city_serve.proofs.Prelude.{subst, written_by, AreServedBy}
use Rattle.city_serve.proofs.Serving.{served_whole}
use Rattle.city_serve.proofs.serve_texts.serve_owned.Goals as goal

pub returns-clause-served : goal.returns-clause-served
returns-clause-served g c =
    let delivered = c.in_ok-delivered.delivered in
    let asked = c.args.options in
    let given = c.given.result in
    let old = g.W.Write.contents c.args.writer.now.0 in
    let new = g.W.Write.contents c.serve_to.new.writer.0 in
    let served = served_whole asked given.document.bytes.items given.scripts.bytes.items _ _ old new
    delivered.seen.items delivered.withheld c.in_ok-delivered.ensures.delivered.0 in
    subst (λ d. AreServedBy (written_by asked.decimals) d.items c.args.scripts.items asked.workers asked.viewers
    delivered.seen.items old new) c.given.ensures.document
    (subst (λ s. AreServedBy (written_by asked.decimals) given.document.bytes.items s.items asked.workers asked.viewers
    delivered.seen.items old new) c.given.ensures.scripts served)
