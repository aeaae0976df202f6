use Rattle.std.proofs.Common.{refl}
use Rattle.city_live.proofs.Replayed.{stays}
use Rattle.city_live.proofs.Followed.{silently}
use Rattle.city_live.proofs.Continued.{same, gone_on}
use Rattle.city_live.proofs.talks.Talks.run.Goals as goal

pub returns-in_default : goal.returns-in_default
returns-in_default g c =
    silently c.self.view_is (same c.self.inside.session) (stays refl)

pub returns : goal.returns
returns g c =
    silently c.self.view_is (gone_on c.args.stamp c.run-gone.ensures.goes) (stays c.run-gone.ensures.goes.city)
