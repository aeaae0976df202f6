use Rattle.city_board.proofs.LawfulCopy.{lawful_copy}
use Rattle.city_crew.proofs.crew_shelf.CrewShelf.new.Goals as goal

pub board-requires-clause-lawful : goal.board-requires-clause-lawful
board-requires-clause-lawful g c = lawful_copy _ _ c.in_ok-copy.ensures c.requires.lawful
