use Rattle.city_scripts.proofs.Prelude.{◌∙◌, ◌++◌, ap, sym, append-nil}
use Rattle.city_scripts.proofs.Told.{are_many, too_many-true}
use Rattle.city_scripts.proofs.all_faults.tell_too_many.Goals as goal

pub returns-in_ok-push : goal.returns-in_ok-push
returns-in_ok-push c = λ ds as_many same.
    let many = sym (are_many c.args.forms.now ds c.args.count same as_many) ∙ sym c.are_too_many.ensures
    ∙ c.if-are_too_many.true in
    c.in_ok-push.ensures.items ∙ ap (λ fs. c.args.faults.now.items ++ fs) (sym (too_many-true ds many))

pub returns-else-are_too_many : goal.returns-else-are_too_many
returns-else-are_too_many c = λ ds as_many same.
    let few = sym (are_many c.args.forms.now ds c.args.count same as_many) ∙ sym c.are_too_many.ensures
    ∙ c.if-are_too_many.false in
    rw few (sym (append-nil c.args.faults.now.items))
