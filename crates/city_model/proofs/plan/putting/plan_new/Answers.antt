use Rattle.city_model.proofs.Prelude.{rules}
use Rattle.city_model.proofs.Planned.{new_writes}
use Rattle.city_model.proofs.plan.putting.plan_new.Goals as goal

pub returns : goal.returns
returns c m command is = search (rules, new_writes m command c.args.id.now c.args.body.now c.new_object-object.result)
