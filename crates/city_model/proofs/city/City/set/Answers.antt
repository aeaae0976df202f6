use Rattle.city_model.proofs.Prelude.{rules, subst, sym, ◌∙◌, false≢true}
use Rattle.std.proofs.Common.{IsSome}
use Rattle.city_model.proofs.Objects.{at_viewed, view_changed, inserted}
use Rattle.city_model.proofs.city.City.set.Goals as goal

pub returns-in_err-insert-clause-present : goal.returns-in_err-insert-clause-present
returns-in_err-insert-clause-present c present =
    let was = at_viewed _ _ _ c.args.id c.self.invariant c.self.view_is in
    absurd (false≢true (subst IsSome (sym was ∙ c.in_err-insert.ensures.absent) present))

pub returns-clause-old : goal.returns-clause-old
returns-clause-old c =
    c.in_ok-insert.ensures.old ∙ at_viewed _ _ _ c.args.id c.self.invariant c.self.view_is

pub returns-clause-objects : goal.returns-clause-objects
returns-clause-objects c = search (rules, inserted)

pub returns-clause-map : goal.returns-clause-map
returns-clause-map c =
    view_changed _ c.insert.new.self.entries _ _ c.args.id _ c.self.invariant c.in_ok-insert.ensures.ordered
    c.in_ok-insert.ensures.updates.0 c.self.view_is
