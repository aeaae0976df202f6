use Rattle.city_live.proofs.Followed as followed
use Rattle.std.proofs.Common.{refl, ◌∙◌}
use Rattle.city_live.proofs.Continued.{same}
use Rattle.city_live.proofs.Finished.{heard_waits}
use Rattle.city_live.proofs.Followed.{saying}
use Rattle.city_live.proofs.Replayed.{stays}
use Rattle.city_live.proofs.Watching.{watched_plain}
use Rattle.city_live.proofs.talks.Talks.tell_waits.Goals as goal

pub invariant_of-self : goal.invariant_of-self
invariant_of-self g c = (
  heard_waits c.self.invariant.0 c.args.stamp c.in-Some.work.now c.in-Some.ensures _ c.args.blocked
      (c.in_ok-hand.ensures ∙ c.hand.ensures) (c.in_ok-tag.ensures ∙ c.tag.ensures) refl c.tell.ensures c.says.ensures,
  watched_plain c.self.invariant.1 _ _ c.says.ensures tt,
)

pub returns : goal.returns
returns g c = saying c.self.view_is (same c.self.inside.session) (stays refl) c.says.new.self _ _ c.says.ensures

pub returns-in_default : goal.returns-in_default
returns-in_default g c =
    followed.same c.args.self.now

pub returns-in_err-hand : goal.returns-in_err-hand
returns-in_err-hand g c =
    followed.same c.args.self.now

pub returns-in_err-tag : goal.returns-in_err-tag
returns-in_err-tag g c =
    followed.same c.args.self.now
