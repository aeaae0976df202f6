use Rattle.city_board.proofs.LawfulCopy.{lawful_copy}
use Rattle.city_tests.proofs.board.board_over.Goals as goal

pub board-requires-clause-lawful : goal.board-requires-clause-lawful
board-requires-clause-lawful g c = lawful_copy _ _ c.in-Ok.ensures c.requires.lawful
