use Rattle.city_model.proofs.Prelude.{rules, sym}
use Rattle.city_model.proofs.Soundness.{parent_and_child}
use Rattle.city_model.proofs.Planned.{detach_writes}
use Rattle.city_model.proofs.plan.relating.plan_detach.Goals as goal

pub is_attached-requires : goal.is_attached-requires
is_attached-requires g c = search (rules, parent_and_child (g.V.ObjectLookup.map c.args.view.now))

pub without_parent-requires : goal.without_parent-requires
without_parent-requires g c = (c.requires.sound _ _ (sym c.in-Some.ensures)).0.parents_once

pub without_child-requires : goal.without_child-requires
without_child-requires g c = (c.requires.sound _ _ (sym c.in-Some-look.ensures)).0.children_once

pub returns : goal.returns
returns g c =
    detach_writes (g.V.ObjectLookup.map c.args.view.now) _ _ _ _ _ _ _ (sym c.in-Some.ensures)
    (sym c.in-Some-look.ensures) c.in_ok-writes.ensures c.requires.sound
    (search rules) c.in_ok-below.ensures c.in_ok-above.ensures
