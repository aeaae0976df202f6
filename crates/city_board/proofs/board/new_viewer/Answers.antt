use Rattle.city_board.proofs.Prelude.{rules}
use Rattle.city_board.proofs.KeptRule.{admits, tells, believes}
use Rattle.city_board.proofs.board.new_viewer.Goals as goal

pub reader-requires : goal.reader-requires
reader-requires c = admits

pub tell-requires : goal.tell-requires
tell-requires c = tells _ _

pub learn-requires : goal.learn-requires
learn-requires c = record { own = search rules; rule = believes _ _ _ _ }
