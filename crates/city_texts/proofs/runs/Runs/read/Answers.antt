use denote.Param.Send.{sendable}
use Rattle.std.proofs.Crossing as values
use Rattle.city_members.proofs.Crossing.{text_sends}
use Rattle.city_texts.proofs.Crossing.{unresolved_sends}
use Rattle.city_texts.proofs.runs.Runs.read.Goals as goal

pub read_pieces-requires-send-T : goal.read_pieces-requires-send-T
read_pieces-requires-send-T g c κs within =
    search (text_sends, unresolved_sends, values.crosses, sendable) depth 60 fits 20000
