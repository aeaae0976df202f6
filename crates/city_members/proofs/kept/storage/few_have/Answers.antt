use Rattle.city_members.proofs.Prelude.{◌∙◌, ap, members_view, sym}
use Rattle.city_members.specs.Attributes.{are_among, has_attributes, members_of}
use Rattle.city_members.specs.internal.KeptIn.{with_own}
use Rattle.city_members.proofs.KeptIn.{attributes_own}
use Rattle.city_members.proofs.kept.storage.few_have.Goals as goal

pub returns-in-Some : goal.returns-in-Some
returns-in-Some c =
    let others = members_view c.args.others.now.entries in
    let named = c.args.named.now in
    c.have.ensures ∙ ap (λ ms. are_among ms c.in-Some.found) c.map-in-Some.ensures.members
    ∙ ap (λ own. are_among named (members_of own)) (sym (attributes_own others c.in-Some.found))
    ∙ ap (λ own. has_attributes (with_own others own) named) (sym c.in-Some.is)
