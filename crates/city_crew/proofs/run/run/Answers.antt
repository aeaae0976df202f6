use Rattle.city_crew.proofs.Prelude.{sendable}
use Rattle.city_crew.proofs.CrewResults.{is_run}
use Rattle.city_crew.proofs.Crossing.{crew_desk_sends, watcher_sends}
use Rattle.city_crew.proofs.run.run.Goals as goal

pub run_threads-requires-send-D : goal.run_threads-requires-send-D
run_threads-requires-send-D g c κs within = let y = c.type_bounds.sync-R in
    search (y, crew_desk_sends, sendable) depth 60 fits 20000

pub run_threads-requires-send-W : goal.run_threads-requires-send-W
run_threads-requires-send-W g c κs within = search (watcher_sends, sendable) depth 60 fits 20000

pub returns-clause-ran : goal.returns-clause-ran
returns-clause-ran g c document text read =
    let came = c.in_ok-output.ensures in
    is_run document text g.O.Origin.city g.O.Origin.scripts c.in_ok-output.city c.in_ok-output.output.ends
    c.in_ok-output.output.bytes.items read (rw (came.ends, came.left) c.in_ok-finished.ensures.ran) came.city
