use Rattle.std.proofs.Common.{refl, ap, ◌∙◌, sym, subst}
use Rattle.city_live.specs.declared.ghosts.event.Event.TheVariants as events
use Rattle.city_live.proofs.Continued.{same}
use Rattle.city_live.proofs.Followed.{quietly, one_more, silently, came_taken, taken_leaving, still_leaving}
use Rattle.city_live.specs.Coming.{OfCame, IsTakenFor, taken}
use Rattle.city_live.specs.Serving.{Served, came_in, IsByeOf}
use Rattle.std.specs.Arc.{arc_value}
use Rattle.city_live.proofs.Saying.{heard_request}
use Rattle.city_live.proofs.Replayed.{stays}
use Rattle.city_live.proofs.Watching.{watched_event}
use Rattle.city_live.proofs.talks.Talks.request.Goals as goal

pub invariant_of-self-2 : goal.invariant_of-self-2
invariant_of-self-2 g c = (
  heard_request c.self.invariant.0 c.args.stamp c.args.hand.now c.args.tag (c.if-not-request.ensures.taken refl).0
      (c.if-not-request.ensures.taken refl).1
      (subst (λ (v : Served). OfCame (IsTakenFor c.args.stamp (arc_value c.args.hand.now) c.args.tag) (came_in v))
      (sym c.self.view_is) c.requires.came)
      (one_more (events.Requests c.args.stamp c.args.hand.now c.args.tag) c.events.ensures c.requests-noted.ensures
      c.note.ensures.events),
  watched_event c.self.invariant.1 (events.Requests c.args.stamp c.args.hand.now c.args.tag)
      (one_more (events.Requests c.args.stamp c.args.hand.now c.args.tag) c.events.ensures c.requests-noted.ensures
      c.note.ensures.events) refl refl,
)

pub returns-clause-goes : goal.returns-clause-goes
returns-clause-goes g c =
    quietly c.self.view_is (same c.self.inside.session) (stays refl) c.note.new.self
    (events.Requests c.args.stamp c.args.hand.now c.args.tag) refl refl
    (one_more (events.Requests c.args.stamp c.args.hand.now c.args.tag) c.events.ensures c.requests-noted.ensures
    c.note.ensures.events)
    c.note.ensures.answers

pub returns-clause-leaving : goal.returns-clause-leaving
returns-clause-leaving g c = λ by t h. record {
  came = subst (OfCame (IsByeOf by t))
      (sym (came_taken c.self.inside.log.events _ c.args.stamp c.args.hand.now c.args.tag
      (one_more (events.Requests c.args.stamp c.args.hand.now c.args.tag) c.events.ensures c.requests-noted.ensures
      c.note.ensures.events)
      ∙ ap (taken c.args.stamp) (ap came_in c.self.view_is)))
      (taken_leaving c.args.stamp by t (came_in c.args.self.now) h.came);
}

pub returns-then-not-request-clause-goes : goal.returns-then-not-request-clause-goes
returns-then-not-request-clause-goes g c =
    (silently c.self.view_is (same c.self.inside.session) (stays refl)).goes

pub returns-then-not-request-clause-leaving : goal.returns-then-not-request-clause-leaving
returns-then-not-request-clause-leaving g c = λ by t h.
    still_leaving (silently c.self.view_is (same c.self.inside.session) (stays refl)) h
