use Rattle.city_scheduler.proofs.Prelude.{refl}
use Rattle.city_scheduler.proofs.AttemptSteps.{aborted}
use Rattle.city_scheduler.proofs.attempt.step.Goals as goal

pub returns-in_default : goal.returns-in_default
returns-in_default g c =
    record {
      stepped = c.run_command.ensures (g.S.Shelf.list c.args.shelf.now);
      base = refl;
      name = refl;
      published = refl;
    }

pub returns-in-Abort-clause-stepped : goal.returns-in-Abort-clause-stepped
returns-in-Abort-clause-stepped g c = (refl, aborted c.in-Abort.is c.roll_back.ensures)
