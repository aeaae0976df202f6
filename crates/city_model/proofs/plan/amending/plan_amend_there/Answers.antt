use Rattle.city_model.proofs.Prelude.{rules}
use Rattle.city_model.proofs.Planned.{amend_writes}
use Rattle.city_model.specs.internal.BorrowedAmendments.{amendment_view}
use Rattle.city_model.proofs.plan.amending.plan_amend_there.Goals as goal

pub returns-in_ok-writes-in-Ok : goal.returns-in_ok-writes-in-Ok
returns-in_ok-writes-in-Ok c m command is =
    let a = amendment_view c.args.amendment in
    search (rules, amend_writes m command c.args.id.now a c.args.object.now c.in-Ok.other)
