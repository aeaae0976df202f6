use Rattle.city_model.proofs.Prelude.{◌∙◌, refl, sym, ap, subst, Some, Object, object_at, changed}
use Rattle.std.proofs.Common.{IsSome}
use Rattle.city_model.proofs.Objects.{at_viewed, view_changed}
use Rattle.city_model.proofs.city.City.replace.Goals as goal

pub returns-in_default-clause-absent : goal.returns-in_default-clause-absent
returns-in_default-clause-absent c =
    sym (c.in_default.ensures.value ∙ at_viewed _ _ _ c.args.id.now c.self.invariant c.self.view_is)

pub returns-clause-old : goal.returns-clause-old
returns-clause-old c =
    sym (c.in-Some.ensures.value ∙ at_viewed _ _ _ c.args.id.now c.self.invariant c.self.view_is)
    ∙ ap (λ (o : Object). Some o) (sym c.replace-old.ensures.value)

pub returns-clause-map : goal.returns-clause-map
returns-clause-map c =
    let written = c.get_mut.follows.holds c.replace-old.new.dest in
    view_changed _ (c.get_mut.follows.lender c.replace-old.new.dest).entries _ _ c.args.id.now _ c.self.invariant
    written.4 (written.3 (subst IsSome c.in-Some.ensures.value refl)).0 c.self.view_is
    ∙ ap (λ (o : Object). changed (object_at c.args.self.now.1) c.args.id.now (Some o)) c.replace-old.ensures.after
