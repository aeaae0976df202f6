use Rattle.std.proofs.Common.{subst, sym}
use Rattle.std.specs.Arc.{arc_value}
use Rattle.city_live.specs.Serving.{Served, IsLeaving}
use Rattle.city_live.proofs.Followed.{still_leaving}
use Rattle.city_live.proofs.hands.Hands.end_for.Goals as goal

pub returns-clause-leaving : goal.returns-clause-leaving
returns-clause-leaving g c = λ h.
    still_leaving c.end.ensures (c.request.ensures.leaving _ _
    (subst (λ (v : Served). IsLeaving (arc_value c.args.sender.now.name) c.args.tag v) (sym c.self.view_is) h))
