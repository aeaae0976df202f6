use Rattle.city_scheduler.proofs.Throughout.{lawful_throughout}
use Rattle.city_scheduler.proofs.in_turn.run_each.Goals as goal

pub returns-clause-lawful : goal.returns-clause-lawful
returns-clause-lawful c = λ n.
    rw (
      c.run_in_turn.ensures.keeps.scripts,
      c.run_in_turn.ensures.keeps.start,
      c.in_ok-desk.ensures.desk,
      ← c.in-Ok.ensures.ends,
    ) at (lawful_throughout _ _ _ c.finish.ensures.serial n)
