use Rattle.city_members.proofs.Prelude.{◌∙◌, ap, sym, Some, members_view}
use Rattle.city_members.specs.Attributes.{attributes_in}
use Rattle.city_members.specs.internal.KeptIn.{with_own}
use Rattle.city_members.proofs.KeptIn.{attributes_own}
use Rattle.city_members.proofs.kept.storage.attributes_of_few.Goals as goal

pub returns-in_ok-copy-in-Some : goal.returns-in_ok-copy-in-Some
returns-in_ok-copy-in-Some c =
    let others = members_view c.args.others.now.entries in
    ap Some c.in_ok-copy-in-Some.ensures ∙ sym (attributes_own others c.in-Some.found)
    ∙ ap (λ own. attributes_in (with_own others own)) (sym c.in-Some.is)
