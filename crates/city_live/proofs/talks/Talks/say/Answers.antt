use Rattle.city_live.proofs.Followed as followed
use Rattle.std.proofs.Common.{refl, subst, sym}
use Rattle.city_live.proofs.Continued.{same}
use Rattle.city_live.proofs.Followed.{answering}
use Rattle.city_live.proofs.Hearing.{heard_unlabelled}
use Rattle.std.specs.Prelude.{List, ℕ, None}
use Rattle.std.specs.Arc.{arc_value}
use Rattle.city_live.specs.Coming.{IsAnswerFor}
use Rattle.city_live.specs.Heard.{IsSeenAt, heard}
use Rattle.city_live.specs.SoFar.{AreHeard}
use Rattle.city_live.specs.Serving.{Served, came_in}
use Rattle.city_live.specs.Watched.{IsShown}
use Rattle.city_live.proofs.Replayed.{stays}
use Rattle.city_live.proofs.Watching.{watched_shown}
use Rattle.city_live.proofs.talks.Talks.say.Goals as goal

pub invariant_of-self : goal.invariant_of-self
invariant_of-self g c = (
  subst (λ es. AreHeard c.self.inside.session c.self.inside.table es) (sym c.says.ensures.events)
      (heard_unlabelled c.self.invariant.0 _ refl
      (subst (λ (v : Served). IsSeenAt v.session.start v.session.closed c.args.what) (sym c.self.view_is)
      c.requires.seen)
      (subst (λ (h : List ℕ). IsAnswerFor h c.args.tag c.args.what (heard c.self.inside.log.events).came)
      (sym c.in-Ok.ensures)
      (subst (λ (v : Served). IsAnswerFor (arc_value c.args.hand.now) c.args.tag c.args.what (came_in v))
      (sym c.self.view_is) c.requires.answers))),
  watched_shown c.self.invariant.1 None _ c.says.ensures
      (subst (λ (v : Served). IsShown v.version c.args.what) (sym c.self.view_is) c.requires.shown),
)

pub returns-in-Ok : goal.returns-in-Ok
returns-in-Ok g c =
    answering c.self.view_is (same c.self.inside.session) (stays refl) c.says.new.self _ _ c.says.ensures

pub returns-in_default : goal.returns-in_default
returns-in_default g c =
    followed.goes_same c.args.self.now
