use Rattle.city_model.proofs.plan.writes.two.Goals as goal

pub returns : goal.returns
returns c = rw c.in_ok-writes.ensures at c.in_ok-push_write.ensures
