use Rattle.city_live.proofs.Followed.{goes_behind, goes_before, still_asked}
use Rattle.city_live.proofs.hands.Hands.serve.Goals as goal

pub answer-requires : goal.answer-requires
answer-requires g c = still_asked c.wake.ensures c.requires

pub returns : goal.returns
returns g c = goes_behind c.wake.ensures (goes_before c.answer.ensures c.wake-2.ensures)
