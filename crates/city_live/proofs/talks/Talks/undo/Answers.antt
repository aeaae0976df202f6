use Rattle.city_live.proofs.Followed as followed
use Rattle.std.proofs.Common.{refl, ◌∙◌, sym}
use Rattle.city_live.proofs.Continued.{forgotten, same}
use Rattle.city_live.proofs.Followed.{saying}
use Rattle.city_live.proofs.Finished.{heard_undone}
use Rattle.city_live.proofs.Replayed.{stays}
use Rattle.city_live.proofs.Watching.{watched_from_there, watched_plain}
use Rattle.city_live.proofs.talks.Talks.undo.Goals as goal

pub invariant_of-self-2 : goal.invariant_of-self-2
invariant_of-self-2 g c = (
  heard_undone c.self.invariant.0 c.args.stamp c.in-Some.work (sym c.take.ensures.taken ∙ c.in-Some.is)
      c.take.ensures.left c.forget.ensures _ c.into_parts-hand.ensures.hand c.into_parts-hand.ensures.tag c.says.ensures
      refl (sym c.is_script.ensures ∙ c.if-not-is_script.false),
  watched_from_there c.forget.ensures.start (watched_plain c.self.invariant.1 _ _ c.says.ensures tt),
)

pub returns : goal.returns
returns g c =
    saying c.self.view_is (forgotten c.args.stamp c.forget.ensures) (stays c.forget.ensures.undone.city) c.says.new.self
    _ _ c.says.ensures

pub returns-then-not-is_open : goal.returns-then-not-is_open
returns-then-not-is_open g c =
    followed.same c.args.self.now
