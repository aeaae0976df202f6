use Rattle.city_model.proofs.Prelude.{rules, sym}
use Rattle.city_model.proofs.Soundness.{parent_and_child}
use Rattle.city_model.proofs.Planned.{attach_writes}
use Rattle.city_model.proofs.plan.relating.plan_attach.Goals as goal

pub is_attached-requires : goal.is_attached-requires
is_attached-requires g c = search (rules, parent_and_child (g.V.ObjectLookup.map c.args.view.now))

pub returns : goal.returns
returns g c =
    attach_writes (g.V.ObjectLookup.map c.args.view.now) _ _ _ _ _ _ _ (sym c.in-Some.ensures)
    (sym c.in-Some-look.ensures) c.in_ok-writes.ensures (search rules)
    (search rules) c.in_ok-below.ensures c.in_ok-above.ensures
