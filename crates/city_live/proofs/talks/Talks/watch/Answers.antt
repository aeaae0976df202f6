use Rattle.std.specs.Prelude.{List, ℕ, None}
use Rattle.std.proofs.Common.{refl, ◌∙◌, sym, ap, subst}
use Rattle.std.specs.Arc.{arc_value}
use Rattle.city_live.specs.declared.answer.What.TheVariants as told
use Rattle.city_live.specs.Coming.{IsAnswerFor}
use Rattle.city_live.specs.Heard.{heard}
use Rattle.city_live.specs.SoFar.{AreHeard}
use Rattle.city_live.specs.Serving.{Served, came_in}
use Rattle.city_live.specs.Watched.{AreWatched, at_rest, with_name}
use Rattle.city_live.proofs.Continued.{same}
use Rattle.city_live.proofs.Finished.{ok_of}
use Rattle.city_live.proofs.Followed.{silently, watching_for}
use Rattle.city_live.proofs.Followed as followed
use Rattle.city_live.proofs.Hearing.{heard_unlabelled}
use Rattle.city_live.proofs.Replayed.{stays}
use Rattle.city_live.proofs.Watching.{watched_joins}
use Rattle.city_live.proofs.talks.Talks.watch.Goals as goal

pub invariant_of-self-2 : goal.invariant_of-self-2
invariant_of-self-2 g c = (
  subst (λ es. AreHeard c.self.inside.session c.self.inside.table es) (sym c.says.ensures.events)
      (heard_unlabelled c.self.invariant.0 _ refl tt
      (subst (λ (h : List ℕ). IsAnswerFor h c.args.tag (told.Watching c.self.inside.version)
      (heard c.self.inside.log.events).came)
      (sym c.in-Ok.ensures)
      (subst (λ (v : Served). IsAnswerFor (arc_value c.args.hand.now) c.args.tag
      (told.Watching c.self.inside.version) (came_in v))
      (sym c.self.view_is) (watching_for c.self.inside.version c.requires)))),
  subst (λ l. AreWatched c.self.inside.session.start c.self.inside.first c.says.new.self.events
      (at_rest c.self.inside.version l))
      (ap (with_name c.self.inside.watchers) c.in-Ok.ensures
      ∙ sym (ok_of c.add.result c.add.ensures.added (sym c.is_err.ensures.value ∙ c.if-is_err.false)))
      (watched_joins c.self.invariant.1 None _ c.says.ensures refl),
)

pub returns-in_default-clause-goes : goal.returns-in_default-clause-goes
returns-in_default-clause-goes g c =
    followed.goes_same c.args.self.now

pub returns-then-is_err-clause-goes : goal.returns-then-is_err-clause-goes
returns-then-is_err-clause-goes g c =
    (silently c.self.view_is (same c.self.inside.session) (stays refl)).goes
