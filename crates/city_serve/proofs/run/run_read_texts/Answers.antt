use Rattle.std.proofs.Common.{rules}
use Rattle.city_serve.proofs.run.run_read_texts.Goals as goal

pub returns-in_err-ran-2-clause-fault : goal.returns-in_err-ran-2-clause-fault
returns-in_err-ran-2-clause-fault g c = let fault = c.in_err-ran-2.ensures.fault in search (fault, rules)
