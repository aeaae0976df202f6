use Rattle.city_server.proofs.Breaking.{at_err, at_ok}
use Rattle.city_server.proofs.Living.{first_of_all}
use Rattle.city_server.proofs.server.Server.run.Goals as goal

pub returns-in-Ok-clause-all : goal.returns-in-Ok-clause-all
returns-in-Ok-clause-all g c = at_ok c.end.result c.in-Ok.ensures.all

pub returns-in-Ok-clause-first : goal.returns-in-Ok-clause-first
returns-in-Ok-clause-first g c = at_err c.end.result (first_of_all c.in-Ok.ensures.all)
