use Rattle.city_crew.proofs.CrewResults.{is_result}
use Rattle.city_crew.proofs.crew_desk.CrewDesk.finish.Goals as goal

pub returns-in-Ok-clause-ran : goal.returns-in-Ok-clause-ran
returns-in-Ok-clause-ran g c =
    rw (← c.self.invariant.0, ← c.self.invariant.1) (
    is_result c.self.inside.desk.0 _ _ c.in-Ok.finished.city c.in-Ok.finished.ends c.in-Ok.ensures.serial
    c.in-Ok.ensures.each_once c.in-Ok.ensures.frame c.in-Ok.ensures.city c.in-Ok.ensures.ends
    )
