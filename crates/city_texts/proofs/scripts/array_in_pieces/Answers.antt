use denote.Param.Send.{sendable}
use Rattle.city_texts.proofs.Crossing.{script_sends}
use Rattle.city_texts.proofs.scripts.array_in_pieces.Goals as goal

pub read_pieces-requires-send-T : goal.read_pieces-requires-send-T
read_pieces-requires-send-T g c κs within = search (script_sends, sendable) depth 60 fits 20000
