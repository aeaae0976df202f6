use denote.Param.Send.{sendable}
use Rattle.city_board.proofs.Crossing.{viewer_sends}
use Rattle.city_tests.proofs.board.seen_beside.Goals as goal

pub join-looked-requires-send-F : goal.join-looked-requires-send-F
join-looked-requires-send-F g c κs within = search (viewer_sends, sendable) depth 60 fits 20000

pub join-looked-requires-send-A : goal.join-looked-requires-send-A
join-looked-requires-send-A g c κs within = search (viewer_sends, sendable) depth 60 fits 20000
