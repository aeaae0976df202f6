use Rattle.city_serve.proofs.Prelude.{IfOk-weaker, IfErr-weaker, AreServedBy, written_by, faults_by}
use Rattle.city_serve.proofs.Serving.{of_input, fault_of_input}
use Rattle.city_serve.proofs.serve.serve_input.Goals as goal

pub returns-clause-served : goal.returns-clause-served
returns-clause-served g c =
    let asked = c.args.options in
    let old = g.W.Write.contents c.args.writer.now.0 in
    let new = g.W.Write.contents c.serve_owned.new.writer.0 in
    let given = c.in_ok-document.ensures in
    IfOk-weaker c.serve_owned.result _ _
    (λ seen served. of_input (g.R.Read.remaining c.args.reader.now.0) c.in_ok-document.document.items
    c.in_ok-document.scripts.items given.document given.scripts
    (λ d s. AreServedBy (written_by asked.decimals) d s asked.workers asked.viewers seen.items old new) served)
    c.serve_owned.ensures.served

pub returns-clause-fault : goal.returns-clause-fault
returns-clause-fault g c =
    let asked = c.args.options in
    let given = c.in_ok-document.ensures in
    IfErr-weaker c.serve_owned.result _ _
    (fault_of_input (g.R.Read.remaining c.args.reader.now.0) c.in_ok-document.document.items
    c.in_ok-document.scripts.items given.document given.scripts
    (written_by asked.decimals) (faults_by asked.decimals) asked.workers asked.viewers
    (g.W.Write.contents c.args.writer.now.0)
    (g.W.Write.contents c.serve_owned.new.writer.0) c.read_input.new.reader.1
    c.serve_owned.new.writer.1)
    c.serve_owned.ensures.fault
