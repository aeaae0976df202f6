use Rattle.std.proofs.Common.{refl, ◌∙◌, subst, Some, ◌<◌}
use Rattle.city_live.proofs.Worked.{some_same}
use Rattle.city_live.proofs.talks.begin_under.Goals as goal

pub returns-then-may_begin_as-clause-begun : goal.returns-then-may_begin_as-clause-begun
returns-then-may_begin_as-clause-begun c = record {
  taken = Some c.in-Some.stamp;
  stamp_is = c.in_ok-begun.ensures.stamp;
  kept_is = λ t e. (
    c.in-Some.is ∙ e,
    subst (λ n. n < c.args.session.now.stamps) (some_same c.in-Some.stamp t e)
        (c.if-may_begin_as.ensures.0 refl).0,
  );
  begun = c.in_ok-begun.ensures.begun;
}
