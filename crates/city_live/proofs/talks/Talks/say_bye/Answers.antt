use Rattle.std.specs.Prelude.{List, ℕ, None}
use Rattle.std.proofs.Common.{refl, ◌∙◌, sym, ap, subst}
use Rattle.std.specs.Arc.{arc_value}
use Rattle.city_live.specs.declared.answer.What.TheVariants as told
use Rattle.city_live.specs.Coming.{IsAnswerFor}
use Rattle.city_live.specs.Heard.{heard}
use Rattle.city_live.specs.SoFar.{AreHeard}
use Rattle.city_live.specs.Serving.{Served, came_in}
use Rattle.city_live.specs.Watched.{AreWatched, at_rest, without_name}
use Rattle.city_live.proofs.Followed.{bye_for}
use Rattle.city_live.proofs.Followed as followed
use Rattle.city_live.proofs.Hearing.{heard_unlabelled}
use Rattle.city_live.proofs.Watching.{watched_forgets}
use Rattle.city_live.proofs.talks.Talks.say_bye.Goals as goal

pub invariant_of-self : goal.invariant_of-self
invariant_of-self g c = (
  subst (λ es. AreHeard c.self.inside.session c.self.inside.table es) (sym c.says.ensures.events)
      (heard_unlabelled c.self.invariant.0 _ refl tt
      (subst (λ (h : List ℕ). IsAnswerFor h c.args.tag told.Bye (heard c.self.inside.log.events).came)
      (sym c.in-Ok.ensures)
      (subst (λ (v : Served). IsAnswerFor (arc_value c.args.hand.now) c.args.tag told.Bye (came_in v))
      (sym c.self.view_is) (bye_for c.requires)))),
  subst (λ l. AreWatched c.self.inside.session.start c.self.inside.first c.says.new.self.events
      (at_rest c.self.inside.version l))
      (ap (without_name c.self.inside.watchers) (c.in-Ok.ensures ∙ sym c.deref.ensures) ∙ sym c.remove.ensures)
      (watched_forgets c.self.invariant.1 None _ c.says.ensures refl),
)

pub returns-in_default : goal.returns-in_default
returns-in_default g c =
    followed.goes_same c.args.self.now
