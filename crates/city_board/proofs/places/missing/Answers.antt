use Rattle.city_board.proofs.Prelude.{rules}
use Rattle.city_board.proofs.Placed.{missing_more, missing_same}
use Rattle.city_board.proofs.places.missing.Goals as goal

pub loop-id-preserved-in_ok-push : goal.loop-id-preserved-in_ok-push
loop-id-preserved-in_ok-push c q = search (rules, missing_more)

pub loop-id-preserved : goal.loop-id-preserved
loop-id-preserved c q = search (rules, missing_same)
