use Rattle.std.proofs.Common.{arith, ap, subst, Some}
use Rattle.city_session.specs.Grown.{Grown}
use Rattle.city_session.specs.Live.{SessionState}
use Rattle.city_session.specs.Acting.{GrowsTo}
use Rattle.city_session.proofs.Recorded.{begun, regrown, unadded, same_committed, seen_open}
use Rattle.city_session.proofs.session.Session.begin_as.Goals as goal

pub invariant_of-self : goal.invariant_of-self
invariant_of-self c = rw c.in_err-add.ensures.err c.self.invariant

pub invariant_of-self-in_default : goal.invariant_of-self-in_default
invariant_of-self-in_default c =
    rw c.in_default.ensures.err (regrown c.self.invariant (unadded c.self.invariant c.args.stamp _ _ _
    (seen_open c.self.view_is c.args.stamp c.requires.fresh) c.in_ok-add.ensures.added c.take-unbegun.ensures.left))

pub invariant_of-self-2 : goal.invariant_of-self-2
invariant_of-self-2 c =
    let more = ap (λ (v : SessionState). v.stamps) c.self.view_is in
    begun c.self.invariant c.args.stamp c.args.stamps c.self.inside.ended c.requires.below
    (omega (arith, more, c.requires.more)) c.in-Ok.ensures.keeps
    (same_committed c.begin.new.self c.self.inside.core c.begin.ensures.city)
    (subst (λ (g : Grown). GrowsTo c.args.stamp (Some g) c.self.inside.growing c.add.new.self) c.begun.ensures
    c.in_ok-add.ensures.added)
    c.in-Ok.ensures.opened c.in-Ok.ensures.own (c.self.invariant.counted (omega arith))
