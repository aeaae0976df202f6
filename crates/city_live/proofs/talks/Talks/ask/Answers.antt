use Rattle.city_live.proofs.Followed as followed
use Rattle.std.proofs.Common.{refl, ap, ◌∙◌}
use Rattle.city_live.specs.declared.ghosts.event.Event.TheVariants as events
use Rattle.city_live.proofs.Continued.{same}
use Rattle.city_live.proofs.Followed.{quietly, one_more, silently, ask_for, on_err}
use Rattle.city_live.specs.Serving.{came_in}
use Rattle.city_live.proofs.Saying.{heard_ask}
use Rattle.city_live.proofs.Replayed.{stays}
use Rattle.city_live.proofs.Watching.{watched_event}
use Rattle.city_live.proofs.talks.Talks.ask.Goals as goal

pub invariant_of-self-2 : goal.invariant_of-self-2
invariant_of-self-2 g c = (
  heard_ask c.self.invariant.0 c.args.stamp c.args.hand.now c.args.tag c.args.script c.in_ok-ask.ensures.asked.0
      (c.if-not-goes_on.ensures refl) c.in_ok-ask.ensures.asked.1
      (ask_for _ c.args.tag c.args.script _ (ap came_in c.self.view_is ∙ c.requires.came))
      (one_more (events.Asks c.args.stamp c.args.hand.now c.args.tag c.args.script) c.events.ensures
      c.asks-noted.ensures c.note.ensures.events),
  watched_event c.self.invariant.1 (events.Asks c.args.stamp c.args.hand.now c.args.tag c.args.script)
      (one_more (events.Asks c.args.stamp c.args.hand.now c.args.tag c.args.script) c.events.ensures
      c.asks-noted.ensures c.note.ensures.events) refl refl,
)

pub returns-clause-goes : goal.returns-clause-goes
returns-clause-goes g c =
    quietly c.self.view_is (same c.self.inside.session) (stays refl) c.note.new.self
    (events.Asks c.args.stamp c.args.hand.now c.args.tag c.args.script) refl refl
    (one_more (events.Asks c.args.stamp c.args.hand.now c.args.tag c.args.script) c.events.ensures
    c.asks-noted.ensures c.note.ensures.events)
    c.note.ensures.answers

pub returns-then-not-goes_on-clause-err : goal.returns-then-not-goes_on-clause-err
returns-then-not-goes_on-clause-err g c =
    followed.same c.args.self.now

pub returns-then-not-goes_on-clause-goes : goal.returns-then-not-goes_on-clause-goes
returns-then-not-goes_on-clause-goes g c =
    followed.goes_same c.args.self.now

pub returns-in_err-ask-clause-err : goal.returns-in_err-ask-clause-err
returns-in_err-ask-clause-err g c =
    on_err _ (silently c.self.view_is (same c.self.inside.session) (stays refl))

pub returns-in_err-ask-clause-goes : goal.returns-in_err-ask-clause-goes
returns-in_err-ask-clause-goes g c =
    (silently c.self.view_is (same c.self.inside.session) (stays refl)).goes
