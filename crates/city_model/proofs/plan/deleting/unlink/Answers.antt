use Rattle.city_model.proofs.Prelude.{sym}
use Rattle.city_model.proofs.plan.deleting.unlink.Goals as goal

pub without_child-requires : goal.without_child-requires
without_child-requires g c =
    (c.requires.sound c.args.parent.now c.in-Some.object.now (sym c.in-Some.ensures)).0.children_once
