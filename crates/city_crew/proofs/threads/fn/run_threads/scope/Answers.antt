use Rattle.city_crew.proofs.Prelude.{IsSend, sendable}
use Rattle.city_crew.proofs.threads.fn.run_threads.scope.Goals as goal

pub run_workers-made-requires-send-D : goal.run_workers-made-requires-send-D
run_workers-made-requires-send-D g c κs within = let s : IsSend g.row.D = c.requires.1.1.1.1.0 in search (sendable, s)
