use Rattle.city_crew.proofs.crew_shelf.CrewShelfShelf.take_from.Goals as goal

pub returns-in-Unseen-clause-ok : goal.returns-in-Unseen-clause-ok
returns-in-Unseen-clause-ok g c = rw c.in-Unseen.is c.take_from.ensures.ok

pub returns-in-Posted-clause-ok : goal.returns-in-Posted-clause-ok
returns-in-Posted-clause-ok g c = rw c.in-Posted.is c.take_from-in-Posted.ensures.ok
