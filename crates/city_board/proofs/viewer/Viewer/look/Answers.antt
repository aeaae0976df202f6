use Rattle.city_board.proofs.KeptRule.{looks}
use Rattle.city_board.proofs.viewer.Viewer.look.Goals as goal

pub enter_as-requires : goal.enter_as-requires
enter_as-requires c = looks _ _
