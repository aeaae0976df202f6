use Rattle.city_model.proofs.plan.objects.with_parent.Goals as goal

pub returns : goal.returns
returns c =
    λ i. record { body = c.in_ok-body.ensures i; parents = c.in_ok-parents.ensures i; children = c.in_ok-children.ensures i }
