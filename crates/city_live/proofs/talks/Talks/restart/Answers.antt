use Rattle.city_live.proofs.Followed as followed
use Rattle.city_live.proofs.Continued.{same, forgotten}
use Rattle.city_live.proofs.Followed.{silently}
use Rattle.city_live.proofs.Replayed.{stays}
use Rattle.city_live.proofs.talks.Talks.restart.Goals as goal

pub returns-then-not-is_open : goal.returns-then-not-is_open
returns-then-not-is_open g c =
    followed.same c.args.self.now

pub returns : goal.returns
returns g c =
    silently c.self.view_is (forgotten c.args.stamp c.forget.ensures) (stays c.forget.ensures.undone.city)
