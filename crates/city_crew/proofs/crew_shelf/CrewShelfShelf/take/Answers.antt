use Rattle.city_crew.proofs.crew_shelf.CrewShelfShelf.take.Goals as goal

pub take-requires-in-Posted-clause-lawful : goal.take-requires-in-Posted-clause-lawful
take-requires-in-Posted-clause-lawful g c = rw c.in-Posted.is at c.requires.lawful
