use Rattle.city_crew.proofs.Prelude.{rules}
use Rattle.city_crew.proofs.run.run_seeded.Goals as goal

pub returns-in_err-output-clause-fault : goal.returns-in_err-output-clause-fault
returns-in_err-output-clause-fault g c =
    let fault = c.in_err-output.ensures.fault c.args.document.now c.args.scripts.now in search (fault, rules)
