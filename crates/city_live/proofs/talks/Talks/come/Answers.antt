use Rattle.std.proofs.Common.{refl, subst, sym}
use Rattle.city_live.specs.declared.ghosts.event.Event.TheVariants as events
use Rattle.city_live.specs.SoFar.{AreHeard}
use Rattle.city_live.proofs.Followed.{one_more}
use Rattle.city_live.proofs.Hearing.{heard_unlabelled}
use Rattle.city_live.proofs.Watching.{watched_event}
use Rattle.city_live.proofs.talks.Talks.come.Goals as goal

pub invariant_of-self : goal.invariant_of-self
invariant_of-self g c = (
  subst (AreHeard c.self.inside.session c.self.inside.table)
      (sym (one_more (events.Comes c.args.hand.now c.args.tag.now c.args.request.now) c.events.ensures
      c.comes-noted.ensures c.note.ensures.events))
      (heard_unlabelled c.self.invariant.0 (events.Comes c.args.hand.now c.args.tag.now c.args.request.now) refl tt tt),
  watched_event c.self.invariant.1 (events.Comes c.args.hand.now c.args.tag.now c.args.request.now)
      (one_more (events.Comes c.args.hand.now c.args.tag.now c.args.request.now) c.events.ensures
      c.comes-noted.ensures c.note.ensures.events) refl refl,
)
