use Rattle.std.proofs.Common.{subst}
use Rattle.city_session.specs.Live.{IsLive}
use Rattle.city_session.proofs.Recorded.{live_of}
use Rattle.city_session.proofs.session.Session.is_live.Goals as goal

pub returns : goal.returns
returns c = subst IsLive c.self.view_is (live_of c.self.invariant)
