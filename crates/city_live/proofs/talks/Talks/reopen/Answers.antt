use Rattle.std.specs.Prelude.{Some}
use Rattle.city_txn.specs.CoreState.{CoreState, committed}
use Rattle.city_live.proofs.Followed as followed
use Rattle.std.proofs.Common.{ap, ◌∙◌, sym, subst}
use Rattle.city_session.specs.Acting.{IsBegun}
use Rattle.city_live.proofs.Finished.{heard_reopened}
use Rattle.city_live.proofs.Continued.{same, unchanged, begun}
use Rattle.city_live.proofs.Followed.{silently}
use Rattle.city_live.proofs.Replayed.{stays}
use Rattle.city_live.proofs.Watching.{watched_from_there}
use Rattle.city_live.proofs.talks.Talks.reopen.Goals as goal

pub invariant_of-self-2 : goal.invariant_of-self-2
invariant_of-self-2 g c = (
  heard_reopened c.self.invariant.0 c.is_live.ensures c.args.stamp (sym c.is_script.ensures ∙ c.if-not-is_script.false)
      (subst (λ t. IsBegun t c.self.inside.session.stamps c.self.inside.session c.begin.new.self)
      c.in_ok-_stamp.ensures.stamp
      c.in_ok-_stamp.ensures.begun),
  watched_from_there c.in_ok-_stamp.ensures.begun.start c.self.invariant.1,
)

pub returns-then-is_open : goal.returns-then-is_open
returns-then-is_open g c =
    followed.same c.args.self.now

pub returns-then-not-is_script : goal.returns-then-not-is_script
returns-then-not-is_script g c =
    followed.same c.args.self.now

pub returns-in_err-_stamp : goal.returns-in_err-_stamp
returns-in_err-_stamp g c =
    silently c.self.view_is (unchanged c.in_err-_stamp.ensures.err)
    (stays (ap (λ (x : CoreState). committed x) c.in_err-_stamp.ensures.err.core))

pub returns : goal.returns
returns g c =
    silently c.self.view_is (begun _ (Some c.args.stamp) c.in_ok-_stamp.ensures.begun)
    (stays c.in_ok-_stamp.ensures.begun.city)
