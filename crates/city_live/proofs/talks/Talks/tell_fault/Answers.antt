use Rattle.city_live.proofs.Followed as followed
use Rattle.std.proofs.Common.{refl}
use Rattle.city_live.proofs.Continued.{same}
use Rattle.city_live.proofs.Followed.{saying}
use Rattle.city_live.proofs.Saying.{heard_fault}
use Rattle.city_live.proofs.Replayed.{stays}
use Rattle.city_live.proofs.Watching.{watched_plain}
use Rattle.city_live.proofs.talks.Talks.tell_fault.Goals as goal

pub invariant_of-self : goal.invariant_of-self
invariant_of-self g c = (
  heard_fault c.self.invariant.0 c.args.stamp _ c.answer-tag.ensures.works c.answer-tag.ensures.tag c.says.ensures
      c.args.fault c.in-Some.ensures refl,
  watched_plain c.self.invariant.1 _ _ c.says.ensures tt,
)

pub returns : goal.returns
returns g c = saying c.self.view_is (same c.self.inside.session) (stays refl) c.says.new.self _ _ c.says.ensures

pub returns-in_default : goal.returns-in_default
returns-in_default g c =
    followed.same c.args.self.now
