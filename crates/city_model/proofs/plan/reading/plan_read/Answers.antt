use Rattle.city_model.proofs.Prelude.{rules, None, Some}
use Rattle.city_model.proofs.PlannedAnswers.{read_writes}
use Rattle.city_model.proofs.plan.reading.plan_read.Goals as goal
use Rattle.city_model.proofs.plan.reading.plan_read.Goals.{in-None, in-Some+in_ok-copy-in-Some}

pub returns : goal.returns
returns g c =
    let m = g.V.ObjectLookup.map c.args.view.now in
    elim c.match-look.branch [
      | in-None w ↦ search (rules, read_writes m c.args.id.now None)
      | in-Some+in_ok-copy-in-Some w ↦ search (rules, read_writes m c.args.id.now (Some w.in-Some.object.now))
    ]
